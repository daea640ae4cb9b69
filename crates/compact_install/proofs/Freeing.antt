-- Which places are named and freed, over rows, is what it is in a store that fits: each row shows its card. One turn of the loops.
use Prim.Native.Nat.{ℕ, zero, suc, ◌+◌, ◌≤◌, ◌<◌}
use mathlib.Core.Path.{◌≡◌, refl, sym, ◌∙◌, ap}
use mathlib.Core.Bool.{Bool, false, cond, ◌&&◌, ◌||◌}
use mathlib.Core.List.Memᴰ
use mathlib.Core.List.{List, [], ◌∷◌, ◌++◌, map}
use native.Mathlib.Omega.{arith}
use native.Mathlib.Numerals.{add-one}
use borrow.Author.Tests.{eqb-true, eqb-false, ltb-true, ltb-false, lt-ltb, le-ltb}
use lib.Dec.{eqb, ltb}
use lib.ListN.{length, get_or, set, drop, length-map, length-set, drop_of_length-le}
use lib.Seq.{drop-cons, get_or-set_same, get_or-set_other}
use Rattle.table.specs.Table.{table_bytes, zeros}
use Rattle.summary.specs.Summary.{summary_words}
use Rattle.ldc.specs.Lists.{any, flat}
use Rattle.ldc.specs.Store.{Link, Card, free, Store, size, card, links, links_of, with_card}
use Rattle.ldc.specs.Lent.{lent_of}
use Rattle.ldc.specs.Rules.{named}
use Rattle.ldc.specs.Steps.{release}
use Rattle.ldc.proofs.Basics.Cases.{cases}
use Rattle.ldc.proofs.Basics.ListLaws.{get_d_map}
use Rattle.ldc.proofs.Lent.Parts.{cards-rows, count-row_of, good-row_of, padded}
use Rattle.ldc.proofs.Lent.Changes.{cards-with_card}
use Rattle.ldc.proofs.Stores.Changes.{card-same, card-other, size-with_card}
use Rattle.ldc.proofs.Stores.Hang.{Beside}
use Rattle.ldc.proofs.Stores.Naming.{named-same}
use Rattle.ldc.proofs.Stores.Release.{Bare, release-beside}
use Rattle.ldc.specs.Layout.{link_limit, link_count, card_of, row_with, row_of, rows_of, mark_words, link_at}
use Rattle.book.proofs.Rows.{link-of, count-of, no_link}
use Rattle.compact_install.specs.Release.{row_names, named_in, places_named, freed_in, Clear}
use Rattle.book_edit.proofs.Fitting.{few-cards}

-- ---- the loops

-- Any from here on: this one, or one behind it.
any-turn : {A : Type 0} (test : A → Bool) (xs : List A) (i : ℕ) (d : A) → i < length xs
    → any test (drop i xs) ≡ (test (get_or xs i d) || any test (drop (i + 1) xs))
any-turn test xs i d h = rw (add-one i, drop-cons xs i d h)

-- The links of a row that are still to be asked.
abbrev pub names_from : (i f : ℕ) → (row : List ℕ) → Bool
names_from i f row = any (λ l. eqb l.place f) (drop i (links_of (card_of row)))

pub names-turn : (row : List ℕ) (i f : ℕ) → Clear row → i < link_count row
    → names_from i f row ≡ (eqb (link_at row i).place f || names_from (i + 1) f row)
names-turn row i f k h =
    let d : Link = no_link in
    let long = count-of row k.good k.few in
    any-turn (λ l. eqb l.place f) (links_of (card_of row)) i d (omega arith)
    ∙ rw (link-of row i d (omega arith))

pub names-end : (row : List ℕ) (i f : ℕ) → Clear row → link_count row ≤ i → names_from i f row ≡ false
names-end row i f k h =
    let long = count-of row k.good k.few in
    let none : drop i (links_of (card_of row)) ≡ [] = drop_of_length-le (links_of (card_of row)) {i = i} (omega arith) in
    rw none

-- The places still to be released.
places-turn : (row : List ℕ) (i : ℕ) → Clear row → i < link_count row
    → drop i (places_named row) ≡ (link_at row i).place ∷ drop (i + 1) (places_named row)
unfolding places_named
places-turn row i k h =
    let d : Link = no_link in
    let long = count-of row k.good k.few in
    let many = length-map (links_of (card_of row)) (λ (l : Link). l.place) in
    let here : get_or (map (λ (l : Link). l.place) (links_of (card_of row))) i 0 ≡ (link_at row i).place =
    get_d_map (λ (l : Link). l.place) (links_of (card_of row)) i d 0 (omega arith) ∙ ap (λ (l : Link). l.place) (link-of row i d (omega arith)) in
    drop-cons (map (λ (l : Link). l.place) (links_of (card_of row))) i 0 (omega arith) ∙ rw (add-one i, here)

places-end : (row : List ℕ) (i : ℕ) → Clear row → link_count row ≤ i → drop i (places_named row) ≡ []
unfolding places_named
places-end row i k h =
    let long = count-of row k.good k.few in
    let many = length-map (links_of (card_of row)) (λ (l : Link). l.place) in
    drop_of_length-le (map (λ (l : Link). l.place) (links_of (card_of row))) {i = i} (omega arith)

-- One turn: this place is freed or not, by its flag.
pub freed-turn : (held : List Bool) (row : List ℕ) (rows : List (List ℕ)) (i : ℕ) → Clear row → i < link_count row → i < length held
    → freed_in (drop i held) (drop i (places_named row)) rows
    ≡ freed_in (drop (i + 1) held) (drop (i + 1) (places_named row))
    (cond (get_or held i false) rows (set rows (link_at row i).place (row_with free (zeros summary_words))))
freed-turn held row rows i k h l = rw (places-turn row i k h, drop-cons held i false l, ← add-one i)

pub freed-end : (held : List Bool) (row : List ℕ) (rows : List (List ℕ)) (i : ℕ) → Clear row → link_count row ≤ i
    → freed_in (drop i held) (drop i (places_named row)) rows ≡ rows
freed-end held row rows i k h = rw (places-end row i k h)

-- One flag more.
pub flags-turn : (test : ℕ → Bool) (flags : List Bool) (i : ℕ) (b : Bool) → i < length flags → b ≡ test i
    → ((j : ℕ) → get_or flags j false ≡ (ltb j i && test j)) → (j : ℕ) → get_or (set flags i b) j false ≡ (ltb j (i + 1) && test j)
flags-turn test flags i b l e h j =
    cases (eqb j i)
    (λ q. let ji : j ≡ i = eqb-true j i q in rw (ji, get_or-set_same flags i b false l, lt-ltb i (i + 1) (omega arith)) e)
    (λ q. let ne : j ≡ i → ⊥ = eqb-false j i q in
    rw (get_or-set_other flags i j b false ne, h j)
    (cases (ltb j i)
    (λ x. rw (x, lt-ltb j (i + 1) (omega (arith, ltb-true j i x))))
    (λ x. rw (x, le-ltb j (i + 1) (omega (arith, ltb-false j i x, ne))))))

pub clear-row_of : (c : Card) (bytes : List ℕ) → length (links_of c) ≤ link_limit → Clear (row_of c bytes)
clear-row_of c bytes h = record { good = good-row_of c bytes; few = omega (arith, count-row_of c bytes) }

-- ---- in a store

module _ {A B : Type 0} where
  any-map : (g : A → B) (test : B → Bool) (xs : List A) → any test (map g xs) ≡ any (λ x. test (g x)) xs
  any-map g test [] = refl
  any-map g test (x ∷ xs) = ap (λ (b : Bool). test (g x) || b) (any-map g test xs)

-- A freed card has no links.
freed-here : (cs : List Card) (f : ℕ) → get_or (set cs f free) f free ≡ free
freed-here [] f = refl
freed-here (c ∷ cs) zero = refl
freed-here (c ∷ cs) (suc f) = freed-here cs f

pub few-freed : (f : ℕ) (s : Store) → ((p : ℕ) → length (links s p) ≤ link_limit) → (p : ℕ) → length (links (with_card f free s) p) ≤ link_limit
unfolding links card
few-freed f s few p =
    cases (eqb p f)
    (λ e. let pf : p ≡ f = eqb-true p f e in rw (pf, freed-here s.cards f) (omega arith))
    (λ e. rw (get_or-set_other s.cards f p free free (eqb-false p f e)) (few p))

pub named-shown : (s : Store) → ((p : ℕ) → length (links s p) ≤ link_limit) → (f : ℕ) → named_in f (lent_of s).cards ≡ named s f
unfolding named_in row_names named lent_of
named-shown s few f =
    sym (any-map card_of (λ c. any (λ l. eqb l.place f) (links_of c)) (rows_of s.cards s.places))
    ∙ ap (any (λ c. any (λ l. eqb l.place f) (links_of c))) (cards-rows s.cards s.places (few-cards s few))

-- To free a place whose card has no links changes no links.
module _ (f : ℕ) (s : Store) (h : f < size s) (b : links s f ≡ []) where
  freed-links : (q : ℕ) → links (with_card f free s) q ≡ links s q
  unfolding links
  freed-links q =
      cases (eqb q f)
      (λ e. let qf : q ≡ f = eqb-true q f e in rw (qf, card-same s f free h) (sym b))
      (λ e. rw (card-other s f free q (eqb-false q f e)))

  freed-bare : (fs : List ℕ) → Bare s fs → Bare (with_card f free s) fs
  freed-bare fs o x m = (rw (size-with_card s f free) (o x m).0, freed-links x ∙ (o x m).1)

-- A freed card's row has no summary, whatever the place holds.
pub freed-row : (f : ℕ) (s : Store) → (lent_of (with_card f free s)).cards ≡ set (lent_of s).cards f (row_with free (zeros summary_words))
unfolding row_of
freed-row f s = cards-with_card s f free

-- What the code leaves of the rows is lent of the store with these places released, if the flags say which of them are named.
pub freed-shown : (fs : List ℕ) (held : List Bool) (s : Store) → ((p : ℕ) → length (links s p) ≤ link_limit) → Bare s fs → length fs ≤ length held
    → ((i : ℕ) → i < length fs → get_or held i false ≡ named s (get_or fs i 0)) → freed_in held fs (lent_of s).cards ≡ (lent_of (release fs s)).cards
freed-shown [] held s few b l h = refl
freed-shown (f ∷ fs) [] s few b l h = absurd (omega arith)
freed-shown (f ∷ fs) (x ∷ held) s few b l h =
    let e : x ≡ named s f = h 0 (omega arith) in
    let c = b f (Memᴰ.head refl) in
    let later : Bare s fs = λ y m. b y (Memᴰ.tail m) in
    let rest : (i : ℕ) → i < length fs → get_or held i false ≡ named s (get_or fs i 0) = λ i hi. h (suc i) (omega arith) in
    cases (named s f)
    (λ q. rw (e, q) (freed-shown fs held s few later (omega arith) rest))
    (λ q. rw (e, q) (ap (freed_in held fs) (sym (freed-row f s))
    ∙ freed-shown fs held (with_card f free s) (few-freed f s few) (freed-bare f s c.0 c.1 fs later) (omega arith)
    (λ i hi. rest i hi ∙ sym (named-same s (with_card f free s) (get_or fs i 0) (freed-links f s c.0 c.1)))))

-- The other pieces stay.
module _ (fs : List ℕ) (s : Store) where
  b : Beside s (release fs s)
  b = release-beside fs s

  pub area-released : (lent_of (release fs s)).area ≡ (lent_of s).area
  unfolding lent_of
  area-released = λ i. flat (b.same-places i)

  pub lists-released : (lent_of (release fs s)).lists ≡ (lent_of s).lists
  unfolding lent_of
  lists-released = λ i. flat (map (λ ps. padded (length (b.same-places i)) ps) (b.same-levels i))

  pub head-released : (lent_of (release fs s)).head ≡ (lent_of s).head
  unfolding lent_of
  head-released = λ i. b.same-threshold i ∷ b.same-cursor i ∷ (flat (map mark_words (b.same-marks i)) ++ map (λ ps. length ps) (b.same-levels i))

  pub memory-released : (lent_of (release fs s)).memory ≡ (lent_of s).memory
  unfolding lent_of
  memory-released = λ i. table_bytes (b.same_memory i)
