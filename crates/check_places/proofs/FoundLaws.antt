-- What rules B and C, once found kept, say of the lists: each fits its part, its items name places, and these hold tables,
-- whose greatest keys are noted.
use Prim.Native.Nat.{ℕ, zero, suc, ◌+◌, ◌*◌, ◌≤◌, ◌<◌, min}
use mathlib.Core.Path.{◌≡◌, refl, sym, ◌∙◌}
use mathlib.Core.Bool.{true, false, cond, not, ◌&&◌, ◌||◌, and-true, and-false, true≢false}
use mathlib.Core.List.{List, [], ◌∷◌, Memᴰ}
use native.Mathlib.Omega.{arith}
use borrow.Author.Tests.{leb-true, ltb-true, eqb-true, eqb-false, eq-eqb}
use lib.Dec.{leb, ltb, eqb}
use lib.ListN.{length, get_or, set, take, drop, drop_of_length-le}
use lib.Seq.{get_or-set_same, get_or-set_other}
use Rattle.table.specs.Table.{entries, zeros, is_table, all_zero, place_of}
use Rattle.table.specs.Search.{greatest_key}
use Rattle.table.proofs.Tests.{and_parts, cases}
use Rattle.table.proofs.Zeros.{length-zeros}
use Rattle.ldc.specs.Lists.{all, how_many}
use Rattle.ldc.specs.Store.{Card, free, live, frozen, is_free, is_live}
use Rattle.ldc.specs.Lent.{row_good}
use Rattle.ldc.proofs.Basics.ListLaws.{all-at, all_of, below_at, how_many-mem}
use Rattle.ldc.proofs.Basics.Counts.{how_many-append}
use Rattle.ldc.proofs.Lent.Parts.{zero-append}
use Rattle.ldc.specs.Layout.{card_of, link_count, summary_start, summary_in, row_rest, items_in, link_limit, link_start, length_in, level_count}
use Rattle.book.specs.Rows.{tabled, Sized}
use Rattle.check_walk.specs.Links.{Walkable}
use Rattle.check_walk.specs.Lists.{names_places}
use Rattle.check_walk.specs.Spans.{lasts_noted}
use Rattle.check_places.specs.Lists.{listed, tallied, list_good, lists_good, place_good, places_good, walk_b}
use Rattle.check_places.specs.Links.{place_tabled, walk_c, Noted}
use Rattle.check_places.proofs.Tally.{counted}

module _ (P : ℕ) (lists head : List ℕ) (g : lists_good P lists head ≡ true) (n : ℕ) (h : n < level_count) where
  list-parts : (leb (length_in head n) P ≡ true) × (names_places P (items_in P lists head n) ≡ true)
  unfolding lists_good list_good
  list-parts = and_parts (leb (length_in head n) P) _ (below_at level_count (list_good P lists head) g n h)

  -- A list fits its part, and its items name places.
  pub list-fits : length_in head n ≤ P
  list-fits = leb-true _ _ list-parts.0

  pub list-below : names_places P (items_in P lists head n) ≡ true
  list-below = list-parts.1

-- What one level lists, all levels together list.
listed-part : (k from P : ℕ) (lists head : List ℕ) (p i : ℕ) → i < k
    → how_many (eqb p) (items_in P lists head (from + i)) ≤ how_many (eqb p) (listed k from P lists head)
unfolding listed
listed-part zero from P lists head p i h = absurd (omega arith)
listed-part (suc k) from P lists head p zero h =
    let e : from + 0 ≡ from = omega arith in
    let a = how_many-append (eqb p) (items_in P lists head from) (listed k (suc from) P lists head) in
    rw e (omega arith)
listed-part (suc k) from P lists head p (suc i) h =
    let e : from + suc i ≡ suc from + i = omega arith in
    let a = how_many-append (eqb p) (items_in P lists head from) (listed k (suc from) P lists head) in
    let r = listed-part k (suc from) P lists head p i (omega arith) in
    rw e (omega arith)

live-not-free : (c : Card) → is_live c ≡ true → is_free c ≡ false
live-not-free free h = absurd (true≢false (sym h))
live-not-free (live ls) h = refl
live-not-free frozen h = absurd (true≢false (sym h))

pub zero-count : (n p : ℕ) → get_or (zeros n) p 0 ≡ 0
unfolding zeros
zero-count zero p = refl
zero-count (suc n) zero = refl
zero-count (suc n) (suc p) = zero-count n p

-- A count of no list is 0, of all lists how often they name the place, 2 standing for any more.
pub counted-all : (P : ℕ) (items : List ℕ) (p : ℕ) → p < P → get_or (tallied (zeros P) items) p 0 ≡ min 2 (how_many (eqb p) items)
counted-all P items p h =
    let r = counted (zeros P) items p 0 (rw (length-zeros P) h) (zero-count P p) in
    let e : 0 + how_many (eqb p) items ≡ how_many (eqb p) items = omega arith in
    rw e at r

module _ (area : List ℕ) (cards : List (List ℕ)) (lists head : List ℕ) (z : Sized area cards) (kept_b : walk_b cards lists head ≡ true)
    (kept-c : walk_c area cards ≡ true) where
  pub good-lists : lists_good (length cards) lists head ≡ true
  unfolding walk_b
  good-lists = (and_parts (lists_good (length cards) lists head) _ kept_b).0

  -- What is listed is live.
  listed-live : (n p : ℕ) → n < level_count → Memᴰ p (items_in (length cards) lists head n)
      → (p < length cards) × (is_live (card_of (get_or cards p [])) ≡ true)
  unfolding walk_b places_good place_good names_places
  listed-live n p h m =
      let near : p < length cards = ltb-true _ _ (all-at (λ i. ltb i (length cards)) (items_in (length cards) lists head n)
      (list-below (length cards) lists head good-lists n h) m) in
      let items = listed level_count 0 (length cards) lists head in
      let good = below_at (length cards) (place_good cards (tallied (zeros (length cards)) items))
      (and_parts (lists_good (length cards) lists head) _ kept_b).1 p near in
      let times : get_or (tallied (zeros (length cards)) items) p 0 ≡ cond (is_live (card_of (get_or cards p []))) 1 0 =
      eqb-true _ _ (and_parts (row_good (get_or cards p [])) _ good).1 in
      let count = counted-all (length cards) items p near in
      let some = how_many-mem (eqb p) (items_in (length cards) lists head n) m (eq-eqb p p refl) in
      let more : how_many (eqb p) (items_in (length cards) lists head n) ≤ how_many (eqb p) items =
      let z : 0 + n ≡ n = omega arith in rw z at (listed-part level_count 0 (length cards) lists head p n h) in (
        near,
        cases (is_live (card_of (get_or cards p []))) (λ q. q)
            (λ q. let none : get_or (tallied (zeros (length cards)) items) p 0 ≡ 0 = times ∙ rw q in absurd (omega arith)),
      )

  -- So it is a table.
  pub list-tabled : (n : ℕ) → n < level_count → tabled area (items_in (length cards) lists head n) ≡ true
  unfolding tabled walk_c place_tabled
  list-tabled n h = all_of (λ p. is_table (place_of area p)) (items_in (length cards) lists head n)
      (λ p m. let l = listed-live n p h m in
      let good : (is_free (card_of (get_or cards p [])) || is_table (place_of area p)) ≡ true =
      (and_parts (is_free (card_of (get_or cards p [])) || is_table (place_of area p)) _
      (below_at (length cards) (place_tabled area cards) kept-c p l.0)).0 in
      rw (live-not-free _ l.1) at good)

  -- And its greatest key is noted.
  list-noted : (ends : List ℕ) → Noted area cards ends → (n : ℕ) → n < level_count
      → lasts_noted area ends (items_in (length cards) lists head n) ≡ true
  unfolding lasts_noted
  list-noted ends noted n h = all_of (λ p. eqb (get_or ends p 0) (greatest_key (entries (place_of area p)))) (items_in (length cards) lists head n)
      (λ p m. let l = listed-live n p h m in eq-eqb _ _ (noted.last p l.0 (live-not-free (card_of (get_or cards p [])) l.1)))

  -- So the lists can be walked.
  pub walkable : (ends : List ℕ) → Noted area cards ends → length lists ≡ level_count * length cards → Walkable area cards lists head ends
  walkable ends noted long = record {
    sized = z;
    long = long;
    fits = λ n h. list-fits (length cards) lists head good-lists n h;
    reads = λ n h. record {
      sized = z;
      room = noted.room;
      names = list-below (length cards) lists head good-lists n h;
      tables = list-tabled n h;
      lasts = list-noted ends noted n h;
    };
  }

-- The greatest keys of the tables before p are noted.
abbrev pub NotedTo : (p : ℕ) → (area : List ℕ) → (cards : List (List ℕ)) → (ends : List ℕ) → Type 0
NotedTo p area cards ends =
    (q : ℕ) → q < p → is_free (card_of (get_or cards q [])) ≡ false → get_or ends q 0 ≡ greatest_key (entries (place_of area q))

-- One more is noted.
pub one_more : (p v : ℕ) (area : List ℕ) (cards : List (List ℕ)) (ends : List ℕ) → p < length ends → NotedTo p area cards ends
    → (is_free (card_of (get_or cards p [])) ≡ false → v ≡ greatest_key (entries (place_of area p))) → NotedTo (p + 1) area cards (set ends p v)
one_more p v area cards ends h before here q hq used =
    cases (eqb q p)
    (λ e. let same : q ≡ p = eqb-true q p e in
    rw same (get_or-set_same ends p v 0 h ∙ here (rw same at used)))
    (λ e. let less : q < p = omega (arith, eqb-false q p e) in
    get_or-set_other ends p q v 0 (eqb-false q p e) ∙ before q less used)

-- Zeros, as a generic walk finds them.
pub zeros-found : (s : List ℕ) → all (λ x. eqb x 0) s ≡ all_zero s
unfolding all_zero
zeros-found [] = refl
zeros-found (x ∷ s) = rw (zeros-found s)

-- Behind more links than there is room for nothing is left.
pub rest-none : (words : List ℕ) (n : ℕ) → length words ≡ summary_start → link_limit < n → true ≡ all_zero (drop (link_start n) words)
unfolding all_zero
rest-none words n h few = rw (drop_of_length-le words {i = link_start n} (omega arith))

-- The words not in use: of a free place the summary's too.
module _ (row : List ℕ) where
  pub rest-free : is_free (card_of row) ≡ true → all_zero (summary_in row) ≡ false → false ≡ all_zero (row_rest row)
  unfolding row_rest
  rest-free f z =
      let front : List ℕ = drop (link_start (link_count row)) (take summary_start row) in
      rw f (sym (zero-append front (summary_in row) ∙ rw z (and-false (all_zero front))))

  pub rest-links : (is_free (card_of row) && not (all_zero (summary_in row))) ≡ false
      → all_zero (drop (link_start (link_count row)) (take summary_start row)) ≡ all_zero (row_rest row)
  unfolding row_rest all_zero
  rest-links h =
      let front : List ℕ = drop (link_start (link_count row)) (take summary_start row) in
      sym (zero-append front (cond (is_free (card_of row)) (summary_in row) [])
      ∙ cases (is_free (card_of row))
      (λ f. cases (all_zero (summary_in row))
      (λ z. rw (f, z) (and-true (all_zero front)))
      (λ z. absurd (true≢false (rw (f, z) at h))))
      (λ f. rw f (and-true (all_zero front))))
