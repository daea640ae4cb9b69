-- The tables asked about a key: of links newest first, of a table, and of a level, where spans rise, so that all but two of its tables can
-- be left out.
use Prim.Native.Nat.{ℕ, zero, suc, ◌+◌, ◌-◌, ◌≤◌, ◌<◌}
use mathlib.Core.Path.{◌≡◌, refl, sym, ◌∙◌, ap}
use mathlib.Core.List.{List, [], ◌∷◌, ◌++◌, reverse, reverse-append, append-nil, Memᴰ}
use mathlib.Core.Bool.{true, false, cond}
use mathlib.Core.Option.{Option, some, none}
use native.Mathlib.Omega.{arith}
use borrow.Author.Tests.{leb-true, leb-false, ltb-true, ltb-false, le-leb, lt-leb}
use lib.Dec.{leb, ltb}
use lib.ListN.{length, get_or, take, drop, length-append, drop_of_length-le}
use lib.Seq.{take-suc, drop-cons}
use Rattle.table.specs.Entry.{Entry}
use Rattle.table.specs.Search.{find, least_key, greatest_key}
use Rattle.ldc.specs.Store.{Link, Store, links, table, span_start, span_end, span_holds}
use Rattle.ldc.specs.Facts.{Spans}
use Rattle.ldc.specs.Probe.{range_holds, asked_of, asked_on}
use Rattle.ldc.proofs.Basics.Cases.{cases, both_left, both_right, clash}
use Rattle.ldc.proofs.Basics.Replaced.{member-reverse}
use Rattle.ldc.proofs.Entries.Finds.{or_else}
use Rattle.ldc.proofs.Stores.Asked.{tables, find-tables, find-asked, asked_by, asked-cons, asked-below}
use Rattle.ldc.proofs.Stores.Lower.{outside}
use Rattle.ldc.proofs.Stores.Spans.{Readable, least_end-link, greatest_end-link, read-outside}
use Rattle.read.specs.Level.{rank}
use Rattle.read.proofs.Rank.{rank_below, rank-start}
use Rattle.read_get.specs.Opens.{ranges}

-- ---- newest first

pub newest-first {ℓ} : {A : Type ℓ} (xs : List A) (i : ℕ) (d : A) → 0 < i → i ≤ length xs → reverse (take i xs) ≡ get_or xs (i - 1) d ∷ reverse (take (i - 1) xs)
newest-first xs zero d h hi = absurd (omega arith)
newest-first xs (suc i) d h hi =
    let e : suc i - 1 ≡ i = omega arith in
    rw e (ap reverse (take-suc xs i d (omega arith)) ∙ reverse-append (take i xs) (get_or xs i d ∷ []))

-- ---- links

module _ (k : ℕ) where
  ranges-cons : (l : Link) (ls : List Link) → ranges k (l ∷ ls) ≡ ranges k (l ∷ []) ++ ranges k ls
  ranges-cons l ls = cases (range_holds k l) (λ q. rw q) (λ q. rw q)

  pub ranges-turn : (ls : List Link) (i : ℕ) (d : Link) → 0 < i → i ≤ length ls
      → ranges k (reverse (take i ls)) ≡ ranges k (get_or ls (i - 1) d ∷ []) ++ ranges k (reverse (take (i - 1) ls))
  ranges-turn ls i d h hi = ap (ranges k) (newest-first ls i d h hi) ∙ ranges-cons (get_or ls (i - 1) d) (reverse (take (i - 1) ls))

  pub few-ranges : (ls : List Link) → length (ranges k ls) ≤ length ls
  few-ranges [] = omega arith
  few-ranges (l ∷ ls) = let r = few-ranges ls in cases (range_holds k l) (λ q. rw q (omega arith)) (λ q. rw q (omega arith))

  ranges-none : (ls : List Link) → ((l : Link) → Memᴰ l ls → range_holds k l ≡ false) → ranges k ls ≡ []
  ranges-none [] h = refl
  ranges-none (l ∷ ls) h = rw (h l (Memᴰ.head refl)) (ranges-none ls (λ x m. h x (Memᴰ.tail m)))

-- ---- a table

no_other : (a b : Option Entry) → or_else a b ≡ none → b ≡ none
no_other none b h = h
no_other (some e) b h = absurd (let z : ◌≡◌ {A = ℕ} 0 1 = cc in omega arith)

module _ (s : Store) (k p : ℕ) where
  -- A span holds what the range of one of its links does.
  range-spanned : span_holds s p k ≡ false → (l : Link) → Memᴰ l (reverse (links s p)) → range_holds k l ≡ false
  unfolding span_holds span_start span_end
  range-spanned h l m =
      let there = member-reverse l (links s p) m in
      cases (range_holds k l)
      (λ q. let low : l.low ≤ k = leb-true _ _ (both_left (leb l.low k) (leb k l.high) q) in
      let high : k ≤ l.high = leb-true _ _ (both_right (leb l.low k) (leb k l.high) q) in
      let starts : leb (span_start s p) k ≡ true = le-leb _ k (omega (arith, low, least_end-link (least_key (table s p)) (links s p) l there)) in
      let ends : leb k (span_end s p) ≡ true = le-leb k _ (omega (arith, high, greatest_end-link (greatest_key (table s p)) (links s p) l there)) in
      clash (rw (starts, ends)) h)
      (λ q. q)

  -- Its links, then itself where its span holds the key.
  pub asked-one : asked_on s k (p ∷ []) ≡ ranges k (reverse (links s p)) ++ cond (span_holds s p k) (p ∷ []) []
  unfolding asked_on asked_of
  asked-one =
      cases (span_holds s p k)
      (λ q. rw (q, append-nil (asked_of s k p)))
      (λ q. rw (q, ranges-none k (reverse (links s p)) (range-spanned q)))

  -- A table whose span does not hold the key does not hold it either.
  pub own-outside : Readable s p → span_holds s p k ≡ false → find k (tables s (p ∷ [])) ≡ none
  unfolding asked_of
  own-outside r h =
      no_other (find k (tables s (ranges k (reverse (links s p))))) (find k (tables s (p ∷ [])))
      (sym (find-tables s k (ranges k (reverse (links s p))) (p ∷ []))
      ∙ find-asked s k p
      ∙ read-outside s p r k (outside s p k h))

-- ---- a level

module _ (s : Store) (k : ℕ) where
  ends-below : (p : ℕ) → span_end s p < k → span_holds s p k ≡ false
  unfolding span_holds
  ends-below p h = rw (lt-leb k (span_end s p) h) (cases (leb (span_start s p) k) (λ q. rw q) (λ q. rw q))

  starts-above : (p : ℕ) → k < span_start s p → span_holds s p k ≡ false
  unfolding span_holds
  starts-above p h = rw (lt-leb (span_start s p) k h)

  -- The tables asked are those of the i-th table, if there is one, for the i of the rank,
  abbrev asked_at : List ℕ → ℕ → List ℕ
  asked_at ps i = asked_on s k (take 1 (drop i ps))

  asked-at : (low : ℕ) (ps : List ℕ) → Spans s low ps → asked_on s k ps ≡ asked_at ps (rank s k ps)
  unfolding rank asked_on
  asked-at low [] h = refl
  asked-at low (p ∷ ps) h =
      cases (ltb (span_end s p) k)
      (λ q. rw (q, ends-below p (ltb-true _ _ q)) (asked-at (suc (span_end s p)) ps h.2))
      (λ q. let None-more : asked_on s k ps ≡ [] = asked-below s k (suc (span_end s p)) ps h.2 (omega (arith, ltb-false (span_end s p) k q)) in
      rw q (asked-cons s k p ps ∙ ap (λ xs. asked_by s k p ++ xs) None-more ∙ sym (asked-cons s k p [])))

  -- and none for another.
  pub here : (ps : List ℕ) (i : ℕ) → i < length ps → take 1 (drop i ps) ≡ get_or ps i 0 ∷ []
  here ps i h = rw (drop-cons ps i 0 h)

  pub past : (ps : List ℕ) (i : ℕ) → length ps ≤ i → asked_at ps i ≡ []
  unfolding asked_on
  past ps i h = rw (drop_of_length-le ps {i = i} h)

  not-asked : (ps : List ℕ) (i : ℕ) → (i < length ps → span_holds s (get_or ps i 0) k ≡ false) → asked_at ps i ≡ []
  unfolding asked_on
  not-asked ps i h =
      cases (ltb i (length ps))
      (λ q. let near : i < length ps = ltb-true _ _ q in rw (here ps i near, h near))
      (λ q. past ps i (ltb-false _ _ q))

  in-front : (ps : List ℕ) (i : ℕ) → i < rank s k ps → asked_at ps i ≡ []
  in-front ps i b =
      not-asked ps i (λ h.
      cases (leb k (span_end s (get_or ps i 0)))
      (λ q. absurd (omega (arith, b, rank_below s k ps i h (leb-true _ _ q))))
      (λ q. ends-below (get_or ps i 0) (leb-false _ _ q)))

  behind : (low : ℕ) (ps : List ℕ) → Spans s low ps → (i : ℕ) → rank s k ps < i → asked_at ps i ≡ []
  behind low ps sp i b =
      not-asked ps i (λ h.
      cases (leb (span_start s (get_or ps i 0)) k)
      (λ q. absurd (omega (arith, b, rank-start s low k ps i sp h (leb-true _ _ q))))
      (λ q. starts-above (get_or ps i 0) (leb-false _ _ q)))

  -- So where the rank is one of two numbers, two tables are asked.
  pub asked-first : (low : ℕ) (ps : List ℕ) → Spans s low ps → rank s k ps ≤ 0 → asked_on s k ps ≡ asked_at ps 0
  asked-first low ps sp h = let e : rank s k ps ≡ 0 = omega arith in rw e at (asked-at low ps sp)

  pub asked-two : (low : ℕ) (ps : List ℕ) → Spans s low ps → (j : ℕ) → 0 < j → rank s k ps ≤ j → j ≤ rank s k ps + 1
      → asked_on s k ps ≡ asked_at ps (j - 1) ++ asked_at ps j
  asked-two low ps sp j h lo hi =
      cases (ltb (rank s k ps) j)
      (λ q. let lt : rank s k ps < j = ltb-true _ _ q in
      let e : rank s k ps ≡ j - 1 = omega arith in
      rw (behind low ps sp j lt, append-nil (asked_at ps (j - 1))) (rw e at (asked-at low ps sp)))
      (λ q. let e : rank s k ps ≡ j = omega (arith, ltb-false (rank s k ps) j q) in
      rw (in-front ps (j - 1) (omega arith)) (rw e at (asked-at low ps sp)))

  -- A table has few links, and a level asks of two tables no more than of one.
  pub few-parts : (ps xs ys : List ℕ) (n : ℕ) → asked_on s k ps ≡ xs ++ ys → length (asked_on s k ps) ≤ n → (length xs ≤ n) × (length ys ≤ n)
  few-parts ps xs ys n e h =
      let l : length (asked_on s k ps) ≡ length xs + length ys = ap length e ∙ length-append xs ys in
      (omega arith, omega arith)
