-- What the code of `interval` works out is the interval of a float's bits, a law for each way out; and each way out of `interval_of` gives
-- that of the reading. A float of the exponent 107 or more has a leading digit; below it the greatest millimetre is 0.
use Prim.Native.Nat.{ℕ, ◌+◌, ◌-◌, ◌*◌, ◌/◌, ◌%◌, ◌^◌, ◌≤◌, ◌<◌}
use mathlib.Core.Path.{◌≡◌, refl, sym, ◌∙◌}
use mathlib.Core.Bool.{Bool, true, false, cond, ◌&&◌}
use native.Mathlib.Nat.{div-lt_iff_lt-mul, one-mul}
use native.Mathlib.Omega.{arith}
use lib.Dec.{leb, eqb}
use lib.Pow.{pow_pos, pow_mono}
use lib.Ieee.{Float, binary32, to_bits}
use borrow.Author.Tests.{lt-ltb, le-ltb, le-leb, lt-leb}
use Rattle.reading.specs.declared.interval.Reading.{Reading}
use Rattle.reading.specs.declared.interval.Reading.TheVariants.{Millimetres, Kilometres}
use Rattle.std.specs.Prelude.{Result, Err}
use Rattle.reading.specs.declared.interval.Interval.{Interval}
use Rattle.reading.specs.declared.interval.Refused.{Refused}
use Rattle.reading.specs.declared.interval.Refused.TheVariants.{OutOfRange, NoMillimetre}
use Rattle.reading.specs.Reading.{significand, scale, above, below, least, greatest, between, float_interval, outside, interval_of}
use Rattle.reading.proofs.Floats.{significand-lt}
use Rattle.reading.proofs.Halfway.{significand-is}
use Rattle.reading.proofs.Bounds.{least-is, greatest-is, least_zero, greatest-zero}

-- the two ends as the code has them, q quarters below being half way
abbrev low_of : (b q : ℕ) → ℕ
low_of b q = ((4 * (8388608 + b % 8388608) - q) * 15625 - 1 + b % 2) / 2 ^ (146 - b / 8388608) + 1

abbrev high_of : (b : ℕ) → ℕ
high_of b = ((4 * (8388608 + b % 8388608) + 2) * 15625 - b % 2) / 2 ^ (146 - b / 8388608)

and-true : (t : Bool) → ◌≡◌ {A = ℕ} (cond (t && true) 1 2) (cond t 1 2)
and-true true = refl
and-true false = refl

shift_is : (b : ℕ) → 107 ≤ b / 8388608 → 145 - scale b ≡ 146 - b / 8388608
unfolding scale
shift_is b h = omega arith

below-is : (b q : ℕ) → 107 ≤ b / 8388608 → q ≡ cond (eqb (b % 8388608) 0) 1 2 → below b ≡ 4 * (8388608 + b % 8388608) - q
unfolding below
below-is b q h e = rw (significand-is b (omega arith), lt-ltb 1 (b / 8388608) (omega arith), and-true (eqb (b % 8388608) 0), e)

above-is : (b : ℕ) → 107 ≤ b / 8388608 → above b ≡ 4 * (8388608 + b % 8388608) + 2
unfolding above
above-is b h = rw (significand-is b (omega arith))

low-is : (b q : ℕ) → 107 ≤ b / 8388608 → q ≡ cond (eqb (b % 8388608) 0) 1 2 → least b ≡ low_of b q
low-is b q h e = least-is b (omega arith) ∙ rw (below-is b q h e, shift_is b h)

high_is : (b : ℕ) → 107 ≤ b / 8388608 → greatest b ≡ high_of b
high_is b h = greatest-is b ∙ rw (above-is b h, shift_is b h)

-- ---- the four ways out of `float_interval`

picked : (b : ℕ) → float_interval b ≡ cond (leb (least b) (greatest b)) (between (least b) (greatest b)) (Err NoMillimetre)
unfolding float_interval
picked b = refl

pub at_zero : (b : ℕ) → b ≡ 0 → between 0 0 ≡ float_interval b
at_zero b e = sym (picked b ∙ rw (e, least_zero, greatest-zero))

small : (s j o : ℕ) → s < 16777216 → 40 ≤ 145 - j → ((4 * s + 2) * 15625 - o) / 2 ^ (145 - j) < 1
small s j o h k =
    let p : 2 ^ 40 ≤ 2 ^ (145 - j) = pow_mono k in
    let a : (4 * s + 2) * 15625 - o < 1 * 2 ^ (145 - j) = omega (arith, one-mul (2 ^ (145 - j))) in
    (div-lt_iff_lt-mul (pow_pos (145 - j))).1 a

greatest-small : (b : ℕ) → b / 8388608 < 107 → greatest b < 1
unfolding greatest above scale
greatest-small b h = small (significand b) (b / 8388608 - 1) (b % 2) (significand-lt b) (omega arith)

pub tiny : (b : ℕ) → (b ≡ 0 → ⊥) → b / 8388608 < 107 → Err NoMillimetre ≡ float_interval b
tiny b n h = sym (picked b ∙ rw (lt-leb (least b) (greatest b) (omega (arith, least-is b (omega arith), greatest-small b h))))

module _ (b q : ℕ) (h : 107 ≤ b / 8388608) (e : q ≡ cond (eqb (b % 8388608) 0) 1 2) where
  pub found : low_of b q ≤ high_of b → between (low_of b q) (high_of b) ≡ float_interval b
  found l = sym (picked b ∙ rw (low-is b q h e, high_is b h, le-leb (low_of b q) (high_of b) l))

  pub missed : high_of b < low_of b q → Err NoMillimetre ≡ float_interval b
  missed l = sym (picked b ∙ rw (low-is b q h e, high_is b h, lt-leb (low_of b q) (high_of b) l))

-- ---- the ways out of `interval_of`

pub millimetres-in : (r : Reading) (m : ℕ) → r ≡ Millimetres m → m < 1099511627776 → between m m ≡ interval_of r
unfolding interval_of
millimetres-in r m e h = rw (e, lt-ltb m 1099511627776 h)

pub millimetres-out : (r : Reading) (m : ℕ) → r ≡ Millimetres m → 1099511627776 ≤ m → Err OutOfRange ≡ interval_of r
unfolding interval_of
millimetres-out r m e h = rw (e, le-ltb m 1099511627776 h)

pub kilometres-out : (r : Reading) (x : Float) → r ≡ Kilometres x → outside x ≡ true → Err OutOfRange ≡ interval_of r
unfolding interval_of
kilometres-out r x e t = rw (e, t)

pub kilometres-in : (r : Reading) (x : Float) (i : Result Interval Refused) → r ≡ Kilometres x → outside x ≡ false
    → i ≡ float_interval (to_bits binary32 x % 2147483648) → i ≡ interval_of r
unfolding interval_of
kilometres-in r x i e t q = q ∙ rw (e, t)
