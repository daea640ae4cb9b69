-- Where pieces begin and end: what a ready run says of its ends.
use Prim.Native.Nat.{ℕ, zero, suc, ◌≤◌, ◌<◌}
use mathlib.Core.Path.{◌≡◌}
use mathlib.Core.Bool.{Bool, true, false, ◌&&◌}
use mathlib.Core.List.{List}
use native.Mathlib.Omega.{arith}
use borrow.Author.Tests.{ltb-true, leb-true, eqb-true, eqb-false, lt-ltb, le-ltb}
use lib.Dec.{leb, ltb, eqb}
use lib.ListN.{length, get_or}
use Rattle.ldc.proofs.Basics.Cases.{cases, both_left, both_right}
use Rattle.history_lists.specs.Pieces.{start_of, end_good, ready}

-- ---- the tests

pub record Ends (size : ℕ) (ends : List ℕ) (k : ℕ) : Type 0 where
  pub there : k < length ends
  pub rises : start_of ends k ≤ get_or ends k 0
  pub within : get_or ends k 0 ≤ size

good-ends : (size : ℕ) (ends : List ℕ) (k : ℕ) → end_good size ends k ≡ true → Ends size ends k
unfolding end_good
good-ends size ends k h =
    let a : Bool = ltb k (length ends) in
    let b : Bool = leb (start_of ends k) (get_or ends k 0) in
    let d : Bool = leb (get_or ends k 0) size in
    let r : (b && d) ≡ true = both_right a (b && d) h in
    record {
      there = ltb-true k (length ends) (both_left a (b && d) h);
      rises = leb-true (start_of ends k) (get_or ends k 0) (both_left b d r);
      within = leb-true (get_or ends k 0) size (both_right b d r);
    }

module _ (size : ℕ) (ends : List ℕ) (space : ℕ) (stops : List ℕ) (room k : ℕ) (h : ready size ends space stops room k ≡ true) where
  pub ready-room : k < room
  unfolding ready
  ready-room = ltb-true k room (both_left (ltb k room) (end_good size ends k && end_good space stops k) h)

  both-good : (end_good size ends k && end_good space stops k) ≡ true
  unfolding ready
  both-good = both_right (ltb k room) (end_good size ends k && end_good space stops k) h

  pub ready-list : Ends size ends k
  ready-list = good-ends size ends k (both_left (end_good size ends k) (end_good space stops k) both-good)

  pub ready-buffer : Ends space stops k
  ready-buffer = good-ends space stops k (both_right (end_good size ends k) (end_good space stops k) both-good)

-- A run is ready exactly if there is room for its number, and both its ends are good.
pub ready-full : (size : ℕ) (ends : List ℕ) (space : ℕ) (stops : List ℕ) (room k : ℕ) → room ≤ k → ready size ends space stops room k ≡ false
unfolding ready
ready-full size ends space stops room k h = rw (le-ltb k room h)

pub ready-test : (size : ℕ) (ends : List ℕ) (space : ℕ) (stops : List ℕ) (room k : ℕ) → k < room
    → ready size ends space stops room k ≡ (end_good size ends k && end_good space stops k)
unfolding ready
ready-test size ends space stops room k h = rw (lt-ltb k room h)

-- ---- rising starts

-- Where each piece ends at or behind its start, starts rise.
pub starts-rise : (ends : List ℕ) (n : ℕ) → ((k : ℕ) → k < n → start_of ends k ≤ get_or ends k 0) → (k : ℕ) → k ≤ n → start_of ends k ≤ start_of ends n
starts-rise ends zero r k h =
    let e : k ≡ 0 = omega arith in
    rw e (omega arith)
starts-rise ends (suc n) r k h =
    cases (eqb k (suc n)) (λ q. rw (eqb-true k (suc n) q) (omega arith))
    (λ q.
    let below = starts-rise ends n (λ i l. r i (omega arith)) k (omega (arith, eqb-false k (suc n) q)) in
    omega (arith, below, r n (omega arith)))
