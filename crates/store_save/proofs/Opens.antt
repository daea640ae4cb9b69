-- Opening by its ways out: 1, 21, 22, then what the check says of the store as opened, which has the sizes of what was lent. The definition's cases
-- compute once each test has its answer.
use Prim.Native.Nat.{ℕ, ◌*◌, ◌≤◌, ◌<◌}
use mathlib.Core.Path.{◌≡◌, refl, sym, ◌∙◌, ap}
use mathlib.Core.Bool.{Bool, true, false, ◌&&◌, ◌||◌, true≢false}
use mathlib.Core.List.{List, ◌++◌}
use native.Mathlib.Omega.{arith}
use borrow.Author.Tests.{lt-ltb, le-ltb, eq-eqb, ne_eqb, eqb-true}
use lib.Dec.{eqb, ltb}
use lib.ListN.{length, take, length-append, length-take}
use lib.Seq.{take-append_seam}
use Rattle.table.proofs.Tests.{and_parts}
use Rattle.ldc.specs.Lists.{is_empty}
use Rattle.ldc.specs.Layout.{level_count, most_places}
use Rattle.ldc.specs.Lent.{Lent, places_in, chop, sizes_good, broken}
use Rattle.ldc.specs.Run.{accepted, wrong_sizes, unsound, not_a_book, fewer_places, check, letter_of}
use Rattle.ldc.proofs.Basics.Cases.{cases}
use Rattle.saved_book.specs.Form.{places_saved, saved_form, lists_start, memory_start}
use Rattle.saved_book.specs.Opened.{opened_rows, opened_lists, opened_head, opened_memory, opened_over, summed_rows}
use Rattle.saved_book.proofs.Opens.{accepts}
use Rattle.saved_book.specs.Calls.{Opening, opening, open_book, open_with, working_after}
use Rattle.book.specs.Pieces.{lent}
use Rattle.book.specs.Rows.{Sized}
use Rattle.check_store.specs.Answer.{Answers}
use Rattle.ldc.proofs.Lent.Shows.{sizes}
use Rattle.saved_form.specs.declared.form.Parts.{Parts}
use Rattle.std.specs.Prelude.{Option, Some, None}
use Rattle.saved_form.specs.Form.{form_of}
use Rattle.store_save.specs.Left.{opened_into, cards_left}

-- What opening into some pieces is to say and to leave.
pub record Into (number letter : ℕ) (m : Lent) (bytes : List ℕ) (m' : Lent) : Type 0 where
  pub number_is : number ≡ (open_book m bytes).number
  pub letter-is : letter ≡ letter_of (opened_over m.area bytes) number
  pub left_is : m' ≡ opened_into number m bytes

-- ---- into pieces that are judged

module _ (m : Lent) (bytes : List ℕ) where
  pub into-sizes : sizes_good m ≡ false → Into wrong_sizes 0 m bytes m
  unfolding open_book letter_of opened_into
  into-sizes z = record { number_is = rw z; letter-is = refl; left_is = refl }

  module _ (z : sizes_good m ≡ true) where
    pub into-unformed : saved_form bytes ≡ false → Into not_a_book 0 m bytes m
    unfolding open_book letter_of opened_into
    into-unformed f = record { number_is = rw (z, f); letter-is = refl; left_is = refl }

    module _ (f : saved_form bytes ≡ true) where
      pub into-fewer : places_in m.area < places_saved bytes → Into fewer_places 0 m bytes m
      unfolding open_book letter_of opened_into
      into-fewer h = record { number_is = rw (z, f, lt-ltb _ _ h); letter-is = refl; left_is = refl }

      -- The check has its say. It finds the sizes good: they are those of what was lent.
      module _ (h : places_saved bytes ≤ places_in m.area) (same : sizes_good (opened_over m.area bytes) ≡ true) where
        pub into-judged : (number letter : ℕ) → number ≡ check (opened_over m.area bytes) → letter ≡ letter_of (opened_over m.area bytes) number
            → Into number letter m bytes (opened_over m.area bytes)
        unfolding open_book opened_into check
        into-judged number letter e l =
            cases (is_empty (broken (opened_over m.area bytes)))
            (λ b. let n : number ≡ accepted = e ∙ rw (same, b) in
            record { number_is = n ∙ rw (z, f, le-ltb _ _ h, b); letter-is = l; left_is = rw n })
            (λ b. let n : number ≡ unsound = e ∙ rw (same, b) in record { number_is = n ∙ rw (z, f, le-ltb _ _ h, b); letter-is = l; left_is = rw n })

-- Only the lengths matter for the sizes.
sizes-same : (m n : Lent) → n.area ≡ m.area → length n.cards ≡ length m.cards → length n.lists ≡ length m.lists
    → sizes_good n ≡ sizes_good m
unfolding sizes_good places_in
sizes-same m n a c l = rw (a, c, l)

-- ---- what `form_of` found

abbrev is_book : Option Parts → Bool
is_book (Some x) = true
is_book None = false

abbrev places_of : Option Parts → ℕ
places_of (Some x) = x.places
places_of None = 0

abbrev lists_of : Option Parts → ℕ
lists_of (Some x) = x.lists
lists_of None = 0

abbrev memory-of : Option Parts → ℕ
memory-of (Some x) = x.memory
memory-of None = 0

pub record Found (s : List ℕ) (x : Parts) : Type 0 where
  pub form : saved_form s ≡ true
  pub places : x.places ≡ places_saved s
  pub lists : x.lists ≡ lists_start s
  pub memory : x.memory ≡ memory_start s

module _ (s : List ℕ) where
  pub found_none : None ≡ form_of s → saved_form s ≡ false
  unfolding form_of
  found_none q =
      cases (saved_form s)
      (λ f. let q' = rw f at q in absurd (true≢false (sym (ap is_book q'))))
      (λ f. f)

  pub found-parts : (x : Parts) → Some x ≡ form_of s → Found s x
  unfolding form_of
  found-parts x q =
      cases (saved_form s)
      (λ f. let q' = rw f at q in record { form = f; places = ap places_of q'; lists = ap lists_of q'; memory = ap memory-of q' })
      (λ f. let q' = rw f at q in absurd (true≢false (ap is_book q')))

-- ---- what was read is the store as opened, and the check has its say of it

module _ (m : Lent) (bytes : List ℕ) (z : sizes_good m ≡ true) (x : Parts) (f : Found bytes x) where
  pub fewer : length m.cards < x.places → Into fewer_places 0 m bytes m
  fewer h = into-fewer m bytes z f.form (omega (arith, h, f.places, (sizes m z).cards))

  module _ (h : x.places ≤ length m.cards) where
    -- The rows read have the area beside them.
    pub rows-sized : (rows : List (List ℕ)) → length rows ≡ length m.cards → Sized m.area rows
    rows-sized rows n = record { whole = (sizes m z).area ∙ rw (n, (sizes m z).cards); most = omega (arith, n, (sizes m z).cards, (sizes m z).most) }

    pub room : places_saved bytes ≤ length m.cards
    room = omega (arith, h, f.places)

    pub judged : (read rows : List (List ℕ)) (lists head memory : List ℕ)
        → read ≡ opened_rows (length m.cards) bytes → rows ≡ summed_rows read (chop (places_in m.area) m.area)
        → lists ≡ opened_lists (length m.cards) bytes → head ≡ opened_head bytes → memory ≡ opened_memory bytes
        → length rows ≡ length m.cards → length lists ≡ length m.lists
        → (number letter : ℕ) → Answers (lent m.area rows lists head memory) number letter
        → Into number letter m bytes (lent m.area rows lists head memory)
    unfolding opened_over
    judged read rows lists head memory ed er el eh em nr nl number letter a =
        let same : lent m.area rows lists head memory ≡ opened_over m.area bytes = rw (er, ed, el, eh, em, (sizes m z).cards) in
        let good : sizes_good (opened_over m.area bytes) ≡ true =
        rw (← same) (sizes-same m (lent m.area rows lists head memory) refl nr nl ∙ z) in
        let a' : Answers (opened_over m.area bytes) number letter = rw same at a in
        rw same (into-judged m bytes z f.form (omega (arith, room, (sizes m z).cards)) good number letter a'.number_is a'.letter-is)

-- ---- opening beside cards that are not seen

-- The number of opening is settled by the area and the sizes.
number_same : (m n : Lent) (bytes : List ℕ) → n.area ≡ m.area → sizes_good n ≡ sizes_good m → (open_book n bytes).number ≡ (open_book m bytes).number
unfolding open_book
number_same m n bytes a z =
    rw (z, a)
    (cases (sizes_good m)
    (λ s. cases (saved_form bytes)
    (λ f. cases (ltb (places_in m.area) (places_saved bytes)) (λ h. rw (s, f, h))
    (λ h. cases (is_empty (broken (opened_over m.area bytes))) (λ b. rw (s, f, h, b)) (λ b. rw (s, f, h, b))))
    (λ f. rw (s, f)))
    (λ s. rw s))

-- Refused, nothing changes.
open-refused : (m : Lent) (bytes : List ℕ) → ((open_book m bytes).number ≡ accepted → ⊥) → (open_book m bytes).lent ≡ m
unfolding open_book
open-refused m bytes n =
    cases (sizes_good m)
    (λ s. cases (saved_form bytes)
    (λ f. cases (ltb (places_in m.area) (places_saved bytes)) (λ h. rw (s, f, h))
    (λ h. cases (is_empty (broken (opened_over m.area bytes))) (λ b. absurd (n (rw (s, f, h, b)))) (λ b. rw (s, f, h, b))))
    (λ f. rw (s, f)))
    (λ s. rw s)

-- What is said of any cards, as many as there are.
abbrev AnyCards : (number : ℕ) → (area bytes : List ℕ) (working : List (List ℕ)) (cards : ℕ) (lists head memory : List ℕ)
    → (rows : List (List ℕ)) (lists' head' memory' : List ℕ) → Type 0
AnyCards number area bytes working cards lists head memory rows lists' head' memory' =
    (c : List (List ℕ)) → length c ≡ cards
    → opening number (lent area (cards_left number rows c) lists' head' memory') ≡ open_with working (lent area c lists head memory) bytes

module _ (area bytes : List ℕ) (working : List (List ℕ)) (cards : ℕ) (lists head memory : List ℕ) where
  pub beside-sizes : (b : Bool)
      → ((m : Lent) → length m.area ≡ length area → length m.cards ≡ cards → length m.lists ≡ length lists → b ≡ sizes_good m)
      → (eqb (length working) cards && b) ≡ false → AnyCards wrong_sizes area bytes working cards lists head memory working lists head memory
  unfolding open_with open_book cards_left
  beside-sizes b said wrong c n =
      let m : Lent = lent area c lists head memory in
      let z : b ≡ sizes_good m = said m refl n refl in
      cases (eqb (length working) cards)
      (λ w. let q : sizes_good m ≡ false = sym z ∙ (rw w at wrong) in rw (n, w, q))
      (λ w. rw (n, w))

  module _ (w : length working ≡ cards) (z : sizes_good (lent area working lists head memory) ≡ true) where
    sizes-of : (c : List (List ℕ)) → length c ≡ cards → sizes_good (lent area c lists head memory) ≡ true
    sizes-of c n = sizes-same (lent area working lists head memory) (lent area c lists head memory) refl (n ∙ sym w) refl ∙ z

    with_open : (c : List (List ℕ)) → length c ≡ cards
        → open_with working (lent area c lists head memory) bytes ≡ open_book (lent area c lists head memory) bytes
    unfolding open_with
    with_open c n = rw (eq-eqb (length working) (length c) (w ∙ sym n))

    -- what was said of the working pieces, as many
    module _ (items words table : List ℕ) (same : length items ≡ length lists) (number letter : ℕ) (m' : Lent)
        (i : number ≡ (open_book (lent area working items words table) bytes).number) where
      inner : sizes_good (lent area working items words table) ≡ true
      inner = sizes-same (lent area working lists head memory) (lent area working items words table) refl refl same ∙ z

      number_is : (c : List (List ℕ)) → length c ≡ cards → number ≡ (open_book (lent area c lists head memory) bytes).number
      number_is c n = i ∙ number_same (lent area c lists head memory) (lent area working items words table) bytes refl (inner ∙ sym (sizes-of c n))

      pub beside-refused : (number ≡ accepted → ⊥) → (rows : List (List ℕ))
          → AnyCards number area bytes working cards lists head memory rows lists head memory
      unfolding cards_left
      beside-refused out rows c n =
          let e = number_is c n in
          let l = open-refused (lent area c lists head memory) bytes (λ q. out (e ∙ q)) in
          rw (with_open c n, ne_eqb number accepted out) (λ j. record { number = e j; lent = sym l j })

      pub beside-opened : number ≡ accepted → (rows : List (List ℕ)) (lists' head' memory' : List ℕ)
          → lent area rows lists' head' memory' ≡ opened_into number (lent area working items words table) bytes
          → AnyCards number area bytes working cards lists head memory rows lists' head' memory'
      unfolding cards_left opened_into
      beside-opened in_order rows lists' head' memory' o c n =
          let e = number_is c n in
          let l = (accepts (lent area c lists head memory) bytes (sym e ∙ in_order)).lent in
          let o' : lent area rows lists' head' memory' ≡ opened_over area bytes = o ∙ rw in_order in
          rw (with_open c n) (rw (eq-eqb number accepted in_order) (λ j. record { number = e j; lent = (o' ∙ sym l) j }))

-- The working rows, by the number.
pub working-is : (number : ℕ) (area bytes : List ℕ) (working : List (List ℕ)) (items words table : List ℕ)
    (rows : List (List ℕ)) (lists head memory : List ℕ)
    → lent area rows lists head memory ≡ opened_into number (lent area working items words table) bytes
    → rows ≡ working_after number working area bytes
unfolding opened_into working_after opened_over
working-is number area bytes working items words table rows lists head memory o =
    ap (λ (m : Lent). m.cards) o
    ∙ cases (eqb number accepted || eqb number unsound) (λ q. rw q) (λ q. rw q)

-- As many working rows as cards, of good sizes, and the lists fit the working items.
pub record Ready (m : Lent) (cards : ℕ) (items : List ℕ) : Type 0 where
  pub as_many : length m.cards ≡ cards
  pub good : sizes_good m ≡ true
  pub fits : length m.lists ≤ length items
  pub front : length (take (length m.lists) items) ≡ length m.lists

pub ready : (m : Lent) (cards : ℕ) (items : List ℕ) (b : Bool)
    → ((n : Lent) → length n.area ≡ length m.area → length n.cards ≡ cards → length n.lists ≡ length m.lists → b ≡ sizes_good n)
    → (eqb (length m.cards) cards && b) ≡ true → level_count * most_places ≤ length items → Ready m cards items
ready m cards items b said both room =
    let p = and_parts (eqb (length m.cards) cards) b both in
    let n : length m.cards ≡ cards = eqb-true _ _ p.0 in
    let z : sizes_good m ≡ true = sym (said m refl n refl) ∙ p.1 in
    let f : length m.lists ≤ length items = omega (arith, room, (sizes m z).lists, (sizes m z).most) in
    record { as_many = n; good = z; fits = f; front = omega (arith, f, length-take (length m.lists) items) }

-- What was lent in front of a buffer is what comes back in front.
pub front-back : {A : Type 0} (n : ℕ) (front rest : List A) → length front ≡ n → take n (front ++ rest) ≡ front
front-back n front rest e = rw (← e) (take-append_seam front rest)

pub front_fits : {A : Type 0} (n : ℕ) (front rest : List A) → length front ≡ n → n ≤ length (front ++ rest)
front_fits n front rest e = omega (arith, length-append front rest)

pub front-back-long : {A : Type 0} (n : ℕ) (front rest : List A) → length front ≡ n → length (take n (front ++ rest)) ≡ n
front-back-long n front rest e = ap length (front-back n front rest e) ∙ e

-- ---- the cards, from what was said of any

module _ (number : ℕ) (working cards : List (List ℕ)) where
  pub cards-stay : (number ≡ accepted → ⊥) → cards ≡ cards_left number working cards
  unfolding cards_left
  cards-stay n = rw (ne_eqb number accepted n)

  pub cards-carried : number ≡ accepted → working ≡ cards_left number working cards
  unfolding cards_left
  cards-carried n = rw (eq-eqb number accepted n)

-- What is said of some cards holds of the same ones.
pub same-cards : (number : ℕ) (area : List ℕ) (cards cards' : List (List ℕ)) (lists head memory : List ℕ) {o : Opening} → cards ≡ cards'
    → opening number (lent area cards' lists head memory) ≡ o → opening number (lent area cards lists head memory) ≡ o
same-cards number area cards cards' lists head memory e h = rw e h

-- What was opened had as many working rows as cards.
pub as-many-opened : (number : ℕ) (l m : Lent) (working : List (List ℕ)) (bytes : List ℕ) → opening number l ≡ open_with working m bytes
    → number ≡ accepted
    → length working ≡ length m.cards
unfolding open_with
as-many-opened number l m working bytes e n =
    cases (eqb (length working) (length m.cards))
    (λ q. eqb-true _ _ q)
    (λ q. let e' : number ≡ wrong_sizes = ap (λ (o : Opening). o.number) e ∙ rw q in absurd (omega arith))
