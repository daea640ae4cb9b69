-- Which floats a reading may be, by their bits: those from 0 to 4,096 kilometres, and minus zero. One way by what the tests that failed
-- say of the float's value; the other by the value of the bits.
use Prim.Native.Nat.{ℕ, zero, suc, ◌+◌, ◌-◌, ◌*◌, ◌/◌, ◌%◌, ◌^◌, ◌≤◌, ◌<◌}
use mathlib.Core.Path.{◌≡◌, refl, sym, ◌∙◌, ap}
use mathlib.Core.Logic.{◌⊎◌, inl, inr}
use mathlib.Core.Bool.{Bool, beq, true, false, not, ◌||◌, true≢false}
use native.Mathlib.Nat.{le_trans, le_of_eq, le_of_lt, lt-suc_self, le_of_suc-le-suc, eq-or-lt_of_le, lt_of_lt_of_le, lt_of_le_of_lt}
use native.Mathlib.Nat.{mul-one, mul_right_comm, mul-le-mul_right, mul-lt-mul_of_pos_right, le_of_mul-le-mul_right, div-lt_iff_lt-mul}
use native.Mathlib.Nat.{suc-mul, zero-mul, zero-div}
use native.Mathlib.Omega.{arith}
use lib.Dec.{T, ltb, leb, eqb, lit≤}
use lib.Pow.{pow_pos, pow_mono, shl_lt}
use lib.IntN.{pos}
use lib.Ieee.{Float, nan, inf, fin, binary32, up, down, size, lt, ne, is_nan, of_bits, to_bits}
use lib.Ieee.Fits.{up_pos, down_pos, kept-lt}
use lib.Ieee.Digits.{size-le}
use lib.Ieee.Bits.{to_bits-of_bits}
use lib.Ieee.Exact.{HasValue}
use borrow.Author.Tests.{ltb-false, le-ltb, eq-eqb, le-leb, lt-leb, eqb-true, eqb-false}
use Rattle.reading.specs.Reading.{farthest, exponent, significand, scale, outside}
use Rattle.reading.proofs.Near.{order}
use Rattle.reading.proofs.Floats.{units, bits-value, significand-lt}

-- ---- a number differs from itself exactly where it is none

beq_same : (s : Bool) → beq s s ≡ true
beq_same true = refl
beq_same false = refl

ne-nan : (x : Float) → ne x x ≡ is_nan x
unfolding ne is_nan
ne-nan nan = refl
ne-nan (inf true) = refl
ne-nan (inf false) = refl
ne-nan (fin s m e) = rw (eq-eqb (m * up e * down e) (m * up e * down e) refl, beq_same s)

-- the tests as the code makes them
pub tested : (x : Float) → ((lt x (of_bits binary32 0) || lt (of_bits binary32 farthest) x) || ne x x) ≡ outside x
unfolding outside of_bits
tested x = rw (ne-nan x)

-- ---- what three tests that fail say

or_l : (a b : Bool) → (a || b) ≡ false → a ≡ false
or_l false b e = refl
or_l true b e = absurd (true≢false e)

or_r : (a b : Bool) → (a || b) ≡ false → b ≡ false
or_r false b e = e
or_r true b e = absurd (true≢false e)

pub not-nan : (x : Float) → outside x ≡ false → T (not (is_nan x))
unfolding outside
not-nan x e = rw (or_r (lt x (fin false 0 (pos 0)) || lt (fin false 1 (pos 12)) x) (is_nan x) e) tt

-- ---- the bits of a float in range

at_top : 0 + (size (2 ^ 161) - 24) * 8388608 + 2 ^ 161 / 2 ^ (size (2 ^ 161) - 24) ≡ farthest
unfolding size
at_top = refl

bits-le : (n : ℕ) → n ≤ 2 ^ 161 → 0 + (size n - 24) * 8388608 + n / 2 ^ (size n - 24) ≤ farthest
bits-le n h = elim (eq-or-lt_of_le h) [
  | inl e ↦ rw e (le_of_eq at_top)
  | inr l ↦ bound (size n) (n / 2 ^ (size n - 24)) (size-le n 161 l) (kept-lt 24 n)
]
  where
    bound : (z q : ℕ) → z ≤ 161 → q < 16777216 → 0 + (z - 24) * 8388608 + q ≤ farthest
    bound z q a b = omega arith

-- a / c is at most 4,096 in units
units-le : (a c : ℕ) → 0 < c → a ≤ 4096 * c → a * 2 ^ 149 / c ≤ 2 ^ 161
units-le a c p h =
    let x : a * 2 ^ 149 ≤ 2 ^ 161 * c = le_trans (mul-le-mul_right (2 ^ 149) h) (le_of_eq (mul_right_comm 4096 c (2 ^ 149))) in
    let y : 2 ^ 161 * c < suc (2 ^ 161) * c = mul-lt-mul_of_pos_right (lt-suc_self (2 ^ 161)) p in
    le_of_suc-le-suc ((div-lt_iff_lt-mul p).1 (lt_of_le_of_lt x y))

bits-zero : (n : ℕ) → n ≡ 0 → 2147483648 + (size n - 24) * 8388608 + n / 2 ^ (size n - 24) ≡ 2147483648
unfolding size
bits-zero n e = rw e

no-magnitude : (m u : ℕ) → 0 < u → m * u * 1 + 0 ≤ 0 → m ≡ 0
no-magnitude zero u p h = refl
no-magnitude (suc m) u p h =
    let x : suc m * u ≡ m * u + u = suc-mul m u in
    absurd (omega (arith, x))

-- A float that the tests let through has the bits of a number from 0 to 4,096, or those of minus zero.
let_through : (x : Float) → outside x ≡ false → (to_bits binary32 x ≤ farthest) ⊎ (to_bits binary32 x ≡ 2147483648)
unfolding outside lt is_nan to_bits
let_through nan e = absurd (true≢false e)
let_through (inf true) e = absurd (true≢false e)
let_through (inf false) e = absurd (true≢false e)
let_through (fin true m k) e =
    let a = or_l (ltb 0 (m * up k * 1 + 0 * down k)) false (or_l (ltb 0 (m * up k * 1 + 0 * down k) || false) false e) in
    let b : m * up k * 1 + 0 ≤ 0 = rw (zero-mul (down k)) at (ltb-false 0 (m * up k * 1 + 0 * down k) a) in
    let z : m ≡ 0 = no-magnitude m (up k) (up_pos k) b in
    let n : m * up k * 2 ^ 149 / down k ≡ 0 =
    ap (λ y. y * up k * 2 ^ 149 / down k) z ∙ ap (λ y. y * 2 ^ 149 / down k) (zero-mul (up k)) ∙ zero-div (down k) in
    inr (bits-zero (m * up k * 2 ^ 149 / down k) n)
let_through (fin false m k) e =
    let t = ltb (4096 * down k) (m * up k * 1) in
    let a = or_r (ltb (m * up k * 1) (0 * down k)) t (or_l (ltb (m * up k * 1) (0 * down k) || t) false e) in
    let b : m * up k ≤ 4096 * down k = rw (mul-one (m * up k)) at (ltb-false (4096 * down k) (m * up k * 1) a) in
    inl (bits-le (m * up k * 2 ^ 149 / down k) (units-le (m * up k) (down k) (down_pos k) b))

-- so without its sign it is in the range of `float_interval`
pub let-through-le : (x : Float) → outside x ≡ false → to_bits binary32 x % 2147483648 ≤ farthest
let-through-le x e = elim (let_through x e) [ inl h ↦ omega arith | inr h ↦ rw h (omega arith) ]

-- ---- the other way round: which bits are let through

units-top : (s j : ℕ) → s < 16777216 → j ≤ 137 → s * 2 ^ j ≤ 2 ^ 161
units-top s j a b =
    let k : 24 + j ≤ 161 = omega arith in
    le_of_lt (lt_of_lt_of_le (shl_lt 24 j a) (pow_mono k))

units_in : (b : ℕ) → b ≤ farthest → units b ≤ 2 ^ 161
unfolding significand scale
units_in b h = elim (order (exponent b) 139) [
  | inl l ↦ units-top (significand b) (scale b) (significand-lt b) (omega arith)
  | inr l ↦
      let e : b ≡ farthest = omega arith in
      rw e (lit≤ tt)
]

in-value : (x : Float) (a : ℕ) → HasValue x false a (2 ^ 149) → a ≤ 2 ^ 161 → outside x ≡ false
unfolding outside lt is_nan
in-value nan a v h = absurd v
in-value (inf s) a v h = absurd v
in-value (fin true m k) a v h = absurd (true≢false v.0)
in-value (fin false m k) a v h =
    let x : m * up k * 2 ^ 149 ≤ 4096 * down k * 2 ^ 149 =
    le_trans (le_of_eq v.1) (le_trans (mul-le-mul_right (down k) h) (le_of_eq (mul_right_comm 4096 (2 ^ 149) (down k)))) in
    let y : m * up k ≤ 4096 * down k = le_of_mul-le-mul_right x (pow_pos 149) in
    rw (zero-mul (down k), mul-one (m * up k), le-ltb (m * up k) 0 (omega arith), le-ltb (4096 * down k) (m * up k) y)

in-bits : (b : ℕ) → b ≤ farthest → outside (of_bits binary32 b) ≡ false
in-bits b h = in-value (of_bits binary32 b) (units b) (bits-value b (omega arith)) (units_in b h)

minus-zero : outside (of_bits binary32 2147483648) ≡ false
unfolding outside of_bits lt is_nan
minus-zero = refl

-- 32 bits are let through exactly where they are those of a number from 0 to 4,096, or of minus zero.
pub outside-bits : (b : ℕ) → b < 4294967296 → outside (of_bits binary32 b) ≡ not (leb b farthest || eqb b 2147483648)
outside-bits b h = elim (order farthest b) [
  | inl l ↦ rw (lt-leb b farthest l) (beyond (eqb b 2147483648) (eqb-true b 2147483648) (eqb-false b 2147483648) l)
  | inr l ↦ rw (le-leb b farthest l) (in-bits b l)
]
  where
    keep : outside (of_bits binary32 b) ≡ false → farthest < b → b ≡ 2147483648
    keep e l =
        let back : to_bits binary32 (of_bits binary32 b) ≡ b = to_bits-of_bits binary32 b h (not-nan (of_bits binary32 b) e) in
        elim (let_through (of_bits binary32 b) e) [ inl k ↦ absurd (omega (arith, rw back at k)) | inr k ↦ sym back ∙ k ]

    flag : (t : Bool) → outside (of_bits binary32 b) ≡ t → (b ≡ 2147483648 → ⊥) → farthest < b → t ≡ true
    flag true e n l = refl
    flag false e n l = absurd (n (keep e l))

    beyond : (t : Bool) → (t ≡ true → b ≡ 2147483648) → (t ≡ false → b ≡ 2147483648 → ⊥) → farthest < b
        → outside (of_bits binary32 b) ≡ not t
    beyond true is isnt l = rw (is refl) minus-zero
    beyond false is isnt l = flag (outside (of_bits binary32 b)) refl (isnt refl) l
