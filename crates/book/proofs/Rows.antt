-- A row and its card: what the words read say of the card and its links, loops over the links, and that the rows written are those of
-- their cards. There and back, `card-back` and `row_back`, are laws of `ldc`, and are passed on here.
use Prim.Native.Nat.{ℕ, zero, suc, ◌+◌, ◌*◌, ◌-◌, ◌≤◌, ◌<◌, min}
use mathlib.Core.Path.{◌≡◌, refl, sym, ◌∙◌, ap}
use mathlib.Core.Bool.{Bool, true, false, not, ◌&&◌}
use mathlib.Core.List.{List, [], ◌∷◌, ◌++◌, map, append_assoc, append-nil}
use native.Mathlib.Omega.{arith}
use native.Mathlib.Nat.{add-zero}
use native.Mathlib.Numerals.{add-one, add-two}
use borrow.Author.Tests.{eqb-true}
use lib.Dec.{eqb}
use lib.ListN.{length, get_or, set, take, drop, length-append, length-drop, take-append-drop}
use lib.Seq.{sets, drop-cons, length-take-le}
use Rattle.coding.proofs.Sets.{sets-mid}
use Rattle.table.specs.Table.{zeros}
use Rattle.table.proofs.Tests.{cases}
use Rattle.table.proofs.Zeros.{length-zeros, zeros-add}
use Rattle.ldc.specs.Lists.{all, is_empty}
use Rattle.summary.specs.Summary.{summary_words}
use Rattle.ldc.specs.Store.{Link, Card, free, live, frozen, links_of, is_free, is_live, is_frozen}
use Rattle.ldc.specs.Lent.{row_good}
use Rattle.ldc.proofs.Basics.ListLaws.{spell}
use Rattle.ldc.proofs.Lent.Changes.{map-set}
use Rattle.ldc.proofs.Lent.Parts.{length-links_at, links-of}
pub use Rattle.ldc.proofs.Lent.Parts.{card-back, row_back, length-row_of, get_d_rows}
use Rattle.ldc.specs.Layout.{link_limit, row_head, link_size, row_size, state_of, link_count, link_start, links_at, card_of}
use Rattle.ldc.specs.Layout.{link_words, link_from, link_at, summary_start, row_with}
use Rattle.book.specs.Row.{links_in, frozen_row, link_added}
use Rattle.book.proofs.Every.{all-fails, all-passes}

-- ---- the state

pub free-state : (row : List ℕ) → is_free (card_of row) ≡ not (eqb (state_of row) 1) && not (eqb (state_of row) 2)
unfolding card_of
free-state row =
    cases (eqb (state_of row) 1)
    (λ q. rw q)
    (λ q. cases (eqb (state_of row) 2) (λ r. rw (q, r)) (λ r. rw (q, r)))

pub live_state : (row : List ℕ) → is_live (card_of row) ≡ eqb (state_of row) 1
unfolding card_of
live_state row =
    cases (eqb (state_of row) 1)
    (λ q. rw q)
    (λ q. cases (eqb (state_of row) 2) (λ r. rw (q, r)) (λ r. rw (q, r)))

pub frozen-state : (row : List ℕ) → is_frozen (card_of row) ≡ eqb (state_of row) 2
unfolding card_of
frozen-state row =
    cases (eqb (state_of row) 1)
    (λ q. let e : state_of row ≡ 1 = eqb-true (state_of row) 1 q in rw e)
    (λ q. cases (eqb (state_of row) 2) (λ r. rw (q, r)) (λ r. rw (q, r)))

-- ---- the links

-- What stands where there is no link.
abbrev pub no_link : Link
no_link = record { place = 0; low = 0; high = 0; number = 0 }

links_at-at : (n : ℕ) (row : List ℕ) (at i : ℕ) (d : Link) → i < n → get_or (links_at n row at) i d ≡ link_from row (at + link_size * i)
links_at-at zero row at i d h = absurd (omega arith)
links_at-at (suc n) row at zero d h = rw (add-zero at)
links_at-at (suc n) row at (suc i) d h =
    let e : at + link_size * suc i ≡ at + link_size + link_size * i = omega arith in
    rw e (links_at-at n row (at + link_size) i d (omega arith))

-- The i-th link of a row's card is the one whose words stand there.
pub link-of : (row : List ℕ) (i : ℕ) (d : Link) → i < length (links_of (card_of row)) → get_or (links_of (card_of row)) i d ≡ link_at row i
unfolding card_of link_at
link-of row i d =
    let n : ℕ = min (link_count row) link_limit in
    cases (eqb (state_of row) 1)
    (λ q. rw q (λ h. links_at-at n row row_head i d (omega (arith, length-links_at n row row_head))))
    (λ q. cases (eqb (state_of row) 2) (λ r. rw (q, r) (λ h. absurd (omega arith))) (λ r. rw (q, r) (λ h. absurd (omega arith))))

-- A good row's count is how many links its card has.
pub count-of : (row : List ℕ) → row_good row ≡ true → link_count row ≤ link_limit → length (links_of (card_of row)) ≡ link_count row
count-of row good few = ap length (links-of row good few) ∙ length-links_at (link_count row) row row_head

module _ (row : List ℕ) where
  -- How many links a row has, whatever it says.
  pub dead-count : is_live (card_of row) ≡ false → length (links_in row) ≡ 0
  unfolding links_in card_of
  dead-count h =
      let q : eqb (state_of row) 1 ≡ false = sym (live_state row) ∙ h in
      cases (eqb (state_of row) 2) (λ r. rw (q, r)) (λ r. rw (q, r))

  pub live-count : is_live (card_of row) ≡ true → length (links_in row) ≡ min (link_count row) link_limit
  unfolding links_in card_of
  live-count h =
      let q : eqb (state_of row) 1 ≡ true = sym (live_state row) ∙ h in
      rw q (length-links_at (min (link_count row) link_limit) row row_head)

  pub few : length (links_in row) ≤ link_limit
  few = cases (is_live (card_of row)) (λ q. omega (arith, live-count q)) (λ q. omega (arith, dead-count q))

  pub link-in : (j : ℕ) (d : Link) → j < length (links_in row) → get_or (links_in row) j d ≡ link_at row j
  unfolding links_in
  link-in j d h = link-of row j d h

  -- One turn of a loop that asks a test of the links of a row.
  module _ (test : Link → Bool) where
    pub links-fails : {whole : Bool} (j : ℕ) → j < length (links_in row) → whole ≡ all test (drop j (links_in row))
        → test (link_at row j) ≡ false → false ≡ whole
    links-fails j h inv f = all-fails test (links_in row) j (link_at row j) h inv (rw (link-in j (link_at row j) h) f)

    pub links-passes : {whole : Bool} (j : ℕ) → j < length (links_in row) → whole ≡ all test (drop j (links_in row))
        → test (link_at row j) ≡ true → whole ≡ all test (drop (j + 1) (links_in row))
    links-passes j h inv t = all-passes test (links_in row) j (link_at row j) h inv (rw (link-in j (link_at row j) h) t)

  -- The links from the j-th on.
  pub links-cons : (j : ℕ) → j < length (links_in row) → drop j (links_in row) ≡ link_at row j ∷ drop (j + 1) (links_in row)
  links-cons j h = drop-cons (links_in row) j (link_at row j) h ∙ rw (link-in j (link_at row j) h, add-one j)

-- A row with no links, and one with some.
pub no-links : {A : Type 0} (ls : List A) → length ls ≡ 0 → is_empty ls ≡ true
no-links [] h = refl
no-links (l ∷ ls) h = absurd (omega arith)

pub some-links : {A : Type 0} (ls : List A) → (length ls ≡ 0 → ⊥) → is_empty ls ≡ false
some-links [] h = absurd (h refl)
some-links (l ∷ ls) h = refl

-- ---- the rows that are written

-- Zeros; and a state and zeros.
pub free-row : zeros row_size ≡ row_with free (zeros summary_words)
unfolding row_with zeros
free-row = refl

pub live-row : 1 ∷ zeros (row_size - 1) ≡ row_with (live []) (zeros summary_words)
unfolding row_with zeros
live-row = refl

pub freeze-row : (words : List ℕ) → frozen_row (row_with (live []) words) ≡ row_with frozen words
unfolding row_with
freeze-row words = refl

-- Behind a live row without links.
pub live-summary : (old words : List ℕ) → length old ≡ summary_words → length words ≡ summary_words
    → sets (row_with (live []) old) summary_start words ≡ row_with (live []) words
unfolding row_with zeros
live-summary old words h n = rw (spell 4 0 old h, spell 4 0 words n)

-- In a whole row it stands behind all else.
pub summary-sets : (row words : List ℕ) → length row ≡ row_size → length words ≡ summary_words
    → sets row summary_start words ≡ take summary_start row ++ words
summary-sets row words h n =
    let all : sets (take summary_start row ++ (drop summary_start row ++ [])) summary_start words ≡ take summary_start row ++ (words ++ []) =
    sets-mid (take summary_start row) (drop summary_start row) [] words summary_start
    (length-take-le summary_start row (omega arith)) (rw length-drop (omega arith)) in
    let one : drop summary_start row ++ [] ≡ drop summary_start row = append-nil (drop summary_start row) in
    let two : words ++ [] ≡ words = append-nil words in
    let three = take-append-drop summary_start row in
    rw (one, two, three) at all

words_append : (ks ls : List Link) → link_words (ks ++ ls) ≡ link_words ks ++ link_words ls
words_append [] ls = refl
words_append (k ∷ ks) ls = rw (words_append ks ls)

length-words : (ls : List Link) → length (link_words ls) ≡ link_size * length ls
length-words [] = refl
length-words (l ∷ ls) = let r = length-words ls in omega arith

-- The stores that add a link: its words, and the count.
pub link-stored : (row : List ℕ) (l : Link) → let at : ℕ = link_start (link_count row) in
    set (set (set (set (set row at l.place) (at + 1) l.low) (at + 2) l.high) (at + 3) l.number) 1 (link_count row + 1) ≡ link_added l row
unfolding link_added
link-stored row l =
    let at : ℕ = link_start (link_count row) in
    let three : at + 3 ≡ suc (suc (suc at)) = omega arith in
    rw (add-one at, add-two at, three)

-- A link put behind the last of a live row is behind the last of its card.
pub link-added : (ls : List Link) (l : Link) (summary : List ℕ) → length ls < link_limit
    → link_added l (row_with (live ls) summary) ≡ row_with (live (ls ++ l ∷ [])) summary
unfolding link_added link_count row_with
link-added ls l summary h =
    let n : ℕ = length ls in
    let left : ℕ = link_size * link_limit - link_size * (n + 1) in
    let front : List ℕ = 1 ∷ n ∷ link_words ls in
    let words : List ℕ = link_words (l ∷ []) in
    let at : length front ≡ link_start n = omega (arith, length-words ls) in
    let rest : zeros (link_size * link_limit - link_size * n) ≡ zeros link_size ++ zeros left =
    ap zeros (omega arith) ∙ zeros-add link_size left in
    let mid : sets (front ++ (zeros link_size ++ (zeros left ++ summary))) (link_start n) words ≡ front ++ (words ++ (zeros left ++ summary)) =
    sets-mid front (zeros link_size) (zeros left ++ summary) words (link_start n) at (length-zeros link_size) in
    let more : length (ls ++ l ∷ []) ≡ n + 1 = length-append ls (l ∷ []) in
    rw (rest, append_assoc, mid, more, words_append ls (l ∷ []), append_assoc)

-- ---- rows of all cards

pub cards-set : (rows : List (List ℕ)) (p : ℕ) (c : Card) (summary : List ℕ) → length (links_of c) ≤ link_limit
    → map card_of (set rows p (row_with c summary)) ≡ set (map card_of rows) p c
cards-set rows p c summary few = map-set card_of rows p (row_with c summary) ∙ rw (card-back c summary few)
