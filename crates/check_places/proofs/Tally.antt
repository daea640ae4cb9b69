-- How often each place is listed: what the counts say, one turn of the loops that count, and rule B by counts.
use Prim.Native.Nat.{ℕ, suc, ◌+◌, ◌-◌, ◌≤◌, ◌<◌, min}
use mathlib.Core.Path.{◌≡◌, refl, ◌∙◌}
use mathlib.Core.List.{List, [], ◌∷◌, ◌++◌}
use native.Mathlib.Omega.{arith}
use native.Mathlib.Numerals.{add-one}
use borrow.Author.Tests.{ltb-true, ltb-false, eqb-true, eqb-false}
use lib.Dec.{ltb, eqb}
use lib.ListN.{length, get_or, drop, set, length-set, drop_of_length-le}
use lib.Seq.{drop-cons, get_or-set_same, get_or-set_other}
use Rattle.table.proofs.Tests.{cases}
use Rattle.ldc.specs.Lists.{how_many}
use Rattle.ldc.specs.Layout.{items_in}
use Rattle.check_places.specs.Lists.{listed, bumped, tallied}

pub tally-turn : (t items : List ℕ) (i : ℕ) → i < length items
    → tallied t (drop i items) ≡ tallied (set t (get_or items i 0) (bumped (get_or t (get_or items i 0) 0))) (drop (i + 1) items)
unfolding tallied
tally-turn t items i h = rw (add-one i, drop-cons items i 0 h)

pub tally-append : (t xs ys : List ℕ) → tallied t (xs ++ ys) ≡ tallied (tallied t xs) ys
unfolding tallied
tally-append t [] ys = refl
tally-append t (x ∷ xs) ys = tally-append (set t x (bumped (get_or t x 0))) xs ys

-- A count is how often the place is listed, 2 standing for any more.
bump-min : (k : ℕ) → bumped (min 2 k) ≡ min 2 (suc k)
unfolding bumped
bump-min k =
    cases (ltb (min 2 k) 2)
    (λ q. let h : min 2 k < 2 = ltb-true _ _ q in rw q (omega arith))
    (λ q. let h : 2 ≤ min 2 k = ltb-false _ _ q in rw q (omega arith))

pub counted : (t items : List ℕ) (p : ℕ) (k : ℕ) → p < length t → get_or t p 0 ≡ min 2 k
    → get_or (tallied t items) p 0 ≡ min 2 (k + how_many (eqb p) items)
unfolding tallied
counted t [] p k h e = let z : k + 0 ≡ k = omega arith in rw z e
counted t (i ∷ is) p k h e =
    cases (eqb p i)
    (λ q. let same : p ≡ i = eqb-true p i q in
    let n : k + suc (how_many (eqb p) is) ≡ suc k + how_many (eqb p) is = omega arith in
    let here : get_or (set t i (bumped (get_or t i 0))) p 0 ≡ min 2 (suc k) =
    rw (← same, get_or-set_same t p (bumped (get_or t p 0)) 0 h, e) (bump-min k) in
    rw (q, n) (counted (set t i (bumped (get_or t i 0))) is p (suc k) (rw length-set h) here))
    (λ q. rw q (counted (set t i (bumped (get_or t i 0))) is p k (rw length-set h)
    (get_or-set_other t i p (bumped (get_or t i 0)) 0 (eqb-false p i q) ∙ e)))

pub tally-end : (t items : List ℕ) (i : ℕ) → length items ≤ i → tallied t (drop i items) ≡ t
unfolding tallied
tally-end t items i h = rw (drop_of_length-le items {i = i} h)

-- The items of the levels from one on: those of this level, and those behind it.
pub listed-turn : (n i P : ℕ) (lists head : List ℕ) → i < n
    → listed (n - i) i P lists head ≡ items_in P lists head i ++ listed (n - (i + 1)) (i + 1) P lists head
unfolding listed
listed-turn n i P lists head h =
    let e : n - i ≡ suc (n - (i + 1)) = omega arith in
    rw (e, add-one i)

pub levels-turn : (t : List ℕ) (n i P : ℕ) (lists head : List ℕ) → i < n
    → tallied t (listed (n - i) i P lists head) ≡ tallied (tallied t (items_in P lists head i)) (listed (n - (i + 1)) (i + 1) P lists head)
levels-turn t n i P lists head h =
    rw (listed-turn n i P lists head h) (tally-append t (items_in P lists head i) (listed (n - (i + 1)) (i + 1) P lists head))

pub levels-end : (t : List ℕ) (n i P : ℕ) (lists head : List ℕ) → n ≤ i → tallied t (listed (n - i) i P lists head) ≡ t
unfolding listed tallied
levels-end t n i P lists head h = let e : n - i ≡ 0 = omega arith in rw e
