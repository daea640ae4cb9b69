-- The interval of a float has the millimetres that round to it by IEEE 754 and no other, as `specs/Exact.antt` claims: those between its
-- half ways, which are those between its two ends. By its bits a reading is such an interval, or out of range.
use Prim.Native.Nat.{ℕ, ◌%◌, ◌^◌, ◌≤◌, ◌<◌}
use mathlib.Core.Path.{◌≡◌, refl, sym, ◌∙◌}
use mathlib.Core.Bool.{Bool, true, false, cond, not, ◌||◌, true≢false, false≢true}
use native.Mathlib.Omega.{arith}
use lib.Dec.{T, leb, eqb, nleb→lt}
use lib.Ieee.{binary32, of_bits, to_bits}
use lib.Ieee.Bits.{to_bits-of_bits}
use Rattle.reading.specs.declared.interval.Reading.TheVariants.{Kilometres}
use Rattle.std.specs.Prelude.{Err}
use Rattle.reading.specs.declared.interval.Refused.TheVariants.{OutOfRange, NoMillimetre}
use Rattle.reading.specs.Reading.{farthest, least, greatest, between, float_interval, outside, interval_of}
use Rattle.reading.specs.Exact.{In, RoundsTo, Exact}
use Rattle.reading.proofs.Halfway.{within-rounds, rounds-within}
use Rattle.reading.proofs.Bounds.{within-between, between-within}
use Rattle.reading.proofs.Range.{outside-bits, not-nan}

-- An interval is that of two ends, or none where they are upside down.
ends-in : (m lo hi : ℕ) (t : Bool) → (T (not t) → hi < lo) → lo ≤ m → m ≤ hi → In m (cond t (between lo hi) (Err NoMillimetre))
ends-in m lo hi true n a b = (a, b)
ends-in m lo hi false n a b = let upside-down : hi < lo = n tt in absurd (omega arith)

in-ends : (m lo hi : ℕ) (t : Bool) → In m (cond t (between lo hi) (Err NoMillimetre)) → (lo ≤ m) × (m ≤ hi)
in-ends m lo hi true h = h
in-ends m lo hi false h = absurd h

all-round : (b m : ℕ) → b ≤ farthest → In m (float_interval b) → RoundsTo b m
unfolding float_interval
all-round b m range h =
    let e = in-ends m (least b) (greatest b) (leb (least b) (greatest b)) h in
    within-rounds b m (omega arith) (between-within b m range e.0 e.1)

no_other : (b m : ℕ) → b ≤ farthest → RoundsTo b m → In m (float_interval b)
unfolding float_interval
no_other b m range e =
    let w = within-between b m range (rounds-within b m (omega arith) e) in
    ends-in m (least b) (greatest b) (leb (least b) (greatest b)) (nleb→lt (least b) (greatest b)) w.0 w.1

by_bits : (b : ℕ) → b < 2 ^ 32
    → interval_of (Kilometres (of_bits binary32 b)) ≡ cond (leb b farthest || eqb b (2 ^ 31)) (float_interval (b % 2 ^ 31)) (Err OutOfRange)
unfolding interval_of
by_bits b h = go (outside (of_bits binary32 b)) (leb b farthest || eqb b 2147483648) refl (outside-bits b h)
  where
    go : (t u : Bool) → outside (of_bits binary32 b) ≡ t → outside (of_bits binary32 b) ≡ not u
        → cond (outside (of_bits binary32 b)) (Err OutOfRange) (float_interval (to_bits binary32 (of_bits binary32 b) % 2147483648))
        ≡ cond u (float_interval (b % 2147483648)) (Err OutOfRange)
    go true true e f = absurd (true≢false (sym e ∙ f))
    go true false e f = rw e
    go false true e f = rw (e, to_bits-of_bits binary32 b h (not-nan (of_bits binary32 b) e))
    go false false e f = absurd (false≢true (sym e ∙ f))

pub exact : Exact
exact = record { all-round = all-round; no_other = no_other; by_bits = by_bits }
