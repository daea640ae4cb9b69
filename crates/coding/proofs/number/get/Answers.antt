-- `get` meets its contract: a turn takes in the byte below those passed, of which at most seven are, so that there is room for it.
-- Each fact is shown over plain numbers and lists first, so that no tactic has to read the records of the whole function.
use Rattle.std.proofs.Common.{ℕ, List, ◌≡◌, ◌+◌, ◌*◌, ◌-◌, ◌≤◌, ◌<◌, ◌^◌, get_or, Fits, w64, arith}
use native.Mathlib.Nat.{mul-le-mul_left}
use lib.Dec.{lit≤}
use Rattle.coding.specs.Number.{number_at, Bytes}
use Rattle.coding.proofs.NumberLaws.{number_at-below, get-turn}
use Rattle.coding.proofs.number.get.Goals as goal

-- No byte passed.
none : (s : List ℕ) (at width : ℕ) → 0 ≡ number_at (width - width) s (at + width)
unfolding number_at
none s at width = let e : width - width ≡ 0 = omega arith in rw e

-- Before the byte at `left - 1` is taken in, what was read so far has room for it.
module _ (s : List ℕ) (at width left n : ℕ) (some : 0 < left) (narrow : width ≤ 8) (bytes : Bytes s)
    (passed : n ≡ number_at (width - left) s (at + left)) where
  small : n < 256 ^ 7
  small = omega (arith, number_at-below (width - left) 7 s (at + left) (omega arith) bytes)

  scaled : (k : ℕ) → k ≤ 256 → Fits w64 (n * k)
  scaled k h = omega (arith, small, mul-le-mul_left n h)

  -- The byte d is taken in.
  module _ (d : ℕ) (e : d ≡ get_or s (at + (left - 1)) 0) where
    summed : (k : ℕ) → k ≤ 256 → Fits w64 (n * k + d)
    summed k h = omega (arith, small, mul-le-mul_left n h, bytes (at + (left - 1)))

    turned : left ≤ width → n * 256 + d ≡ number_at (width - (left - 1)) s (at + (left - 1))
    turned h = cc (get-turn s at width left some h, passed)

pub loop-i-init : goal.loop-i-init
loop-i-init c = none c.args.s.now c.args.at c.args.width

pub overflow_mul-n : goal.overflow_mul-n
overflow_mul-n c =
    scaled _ _ _ _ _ c.loop-i-test.true c.requires.0 (λ i. (c.type_inv.s i).fits) c.loop-i.invariant _ (lit≤ tt)

pub overflow_add-n : goal.overflow_add-n
overflow_add-n c =
    summed _ _ _ _ _ c.loop-i-test.true c.requires.0 (λ i. (c.type_inv.s i).fits) c.loop-i.invariant _ c.from.ensures _ (lit≤ tt)

pub loop-i-preserved : goal.loop-i-preserved
loop-i-preserved c =
    turned _ _ _ _ _ c.loop-i-test.true c.requires.0 (λ i. (c.type_inv.s i).fits) c.loop-i.invariant _ c.from.ensures (omega arith)
