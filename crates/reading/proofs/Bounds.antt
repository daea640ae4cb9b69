-- The least and the greatest millimetre of a float bound exactly those between its half ways. Both sides of an inequality have the factor
-- 64 * 2 ^ scale b, which goes; what is left is a quotient.
use Prim.Native.Nat.{ℕ, zero, suc, ◌+◌, ◌-◌, ◌*◌, ◌/◌, ◌%◌, ◌^◌, ◌≤◌, ◌<◌}
use mathlib.Core.Path.{◌≡◌, refl, sym, ◌∙◌, ap}
use mathlib.Core.Logic.{inl, inr}
use mathlib.Core.Bool.{◌&&◌}
use native.Mathlib.Nat.{add-mul, mul-one, mul_assoc, mul_left_comm, mul_right_comm, mul-le-mul_left, mul-le-mul_right}
use native.Mathlib.Nat.{le_of_mul-le-mul_right, lt_of_mul-lt-mul_right, le-div_iff_mul-le, div-lt_iff_lt-mul}
use native.Mathlib.Numerals.{add-one}
use native.Mathlib.Omega.{arith}
use lib.Dec.{ltb, eqb, lit≤}
use lib.Pow.{pow-add, pow_pos}
use borrow.Author.Tests.{eq-eqb, ne_eqb}
use Rattle.reading.specs.Reading.{farthest, exponent, fraction, significand, scale, above, below, least, greatest}
use Rattle.reading.proofs.Near.{order}
use Rattle.reading.proofs.Halfway.{Within, quarters-le, far, too_far}

-- a common factor goes, and a strict order stays one
module _ (x y p : ℕ) (p-pos : 0 < p) where
  factor-out : (o : ℕ) → o < 2 → 64 * (x * p) + o ≤ 64 * (y * p) → x + o ≤ y
  factor-out o l h = elim (order o 1) [
    | inl z ↦
        let g : x * p ≤ y * p = omega arith in
        let k : x ≤ y = le_of_mul-le-mul_right g p-pos in
        omega arith
    | inr z ↦
        let g : x * p < y * p = omega arith in
        let k : x < y = lt_of_mul-lt-mul_right p g in
        omega arith
  ]

  factor-in : (o : ℕ) → x + o ≤ y → 64 * (x * p) + o ≤ 64 * (y * p)
  factor-in o h =
      let g : x * p + o * p ≤ y * p = rw (add-mul x o p) at (mul-le-mul_right p h) in
      let k : o * 1 ≤ o * p = mul-le-mul_left o p-pos in
      let e : o * 1 ≡ o = mul-one o in
      omega arith

-- 1,000,000 is 64 * 15,625
million : (a p : ℕ) → a * p * 1000000 ≡ 64 * (a * 15625 * p)
million a p = let e : a * 15625 * p ≡ a * p * 15625 = mul_right_comm a 15625 p in omega arith

-- a millimetre is so many quarters, each taken 15,625 times
millimetre : (m j : ℕ) → j ≤ 145 → 4 * (m * 2 ^ 149) ≡ 64 * (m * 2 ^ (145 - j) * 2 ^ j)
millimetre m j h =
    let e : 145 - j + j ≡ 145 = omega arith in
    let f : 2 ^ (145 - j) * 2 ^ j ≡ 2 ^ 145 = sym (pow-add 2 (145 - j) j) ∙ ap (λ k. 2 ^ k) e in
    mul_left_comm 4 m (2 ^ 149)
    ∙ sym (mul_left_comm 64 m (2 ^ 145))
    ∙ ap (λ k. 64 * k) (ap (λ k. m * k) (sym f) ∙ sym (mul_assoc m (2 ^ (145 - j)) (2 ^ j)))

-- the least of a float above zero
pub least-is : (b : ℕ) → 0 < b → least b ≡ (below b * 15625 - 1 + b % 2) / 2 ^ (145 - scale b) + 1
unfolding least
least-is b h = rw (ne_eqb b 0 (omega arith))

pub greatest-is : (b : ℕ) → greatest b ≡ (above b * 15625 - b % 2) / 2 ^ (145 - scale b)
unfolding greatest
greatest-is b = refl

significand-pos : (b : ℕ) → 0 < b → 0 < significand b
unfolding significand
significand-pos b h = elim (order (exponent b) 1) [
  | inl l ↦
      let z : exponent b ≡ 0 = omega arith in
      rw (eq-eqb (exponent b) 0 z) (omega arith)
  | inr l ↦ rw (ne_eqb (exponent b) 0 (omega arith)) (omega arith)
]

below-pos : (b : ℕ) → 0 < b → 0 < below b
unfolding below
below-pos b h = omega (arith, quarters-le (eqb (fraction b) 0 && ltb 1 (exponent b)), significand-pos b h)

above-pos : (b : ℕ) → 0 < above b
unfolding above
above-pos b = omega arith

in-range : (b : ℕ) → b ≤ farthest → scale b ≤ 145
unfolding scale
in-range b h = omega arith

-- ---- both bounds of a float above zero, in quarters of its last place

module _ (b m : ℕ) (range : b ≤ farthest) (some : 0 < b) where
  unit-pos : 0 < 2 ^ (145 - scale b)
  unit-pos = pow_pos (145 - scale b)

  lower-exact : below b * 2 ^ scale b * 1000000 + b % 2 ≤ 4 * (m * 2 ^ 149) → least b ≤ m
  lower-exact h =
      let a : below b * 15625 + b % 2 ≤ m * 2 ^ (145 - scale b) =
      factor-out (below b * 15625) (m * 2 ^ (145 - scale b)) (2 ^ scale b) (pow_pos (scale b)) (b % 2) (omega arith)
      (rw (million (below b) (2 ^ scale b), millimetre m (scale b) (in-range b range)) at h) in
      let c : below b * 15625 - 1 + b % 2 < m * 2 ^ (145 - scale b) = omega (arith, below-pos b some) in
      rw (least-is b some, add-one ((below b * 15625 - 1 + b % 2) / 2 ^ (145 - scale b))) ((div-lt_iff_lt-mul unit-pos).1 c)

  lower-back : least b ≤ m → below b * 2 ^ scale b * 1000000 + b % 2 ≤ 4 * (m * 2 ^ 149)
  lower-back h =
      let a : below b * 15625 - 1 + b % 2 < m * 2 ^ (145 - scale b) =
      (div-lt_iff_lt-mul unit-pos).0 (rw (least-is b some, add-one ((below b * 15625 - 1 + b % 2) / 2 ^ (145 - scale b))) at h) in
      let c : below b * 15625 + b % 2 ≤ m * 2 ^ (145 - scale b) = omega (arith, below-pos b some) in
      rw (million (below b) (2 ^ scale b), millimetre m (scale b) (in-range b range))
      (factor-in (below b * 15625) (m * 2 ^ (145 - scale b)) (2 ^ scale b) (pow_pos (scale b)) (b % 2) c)

  upper-exact : 4 * (m * 2 ^ 149) + b % 2 ≤ above b * 2 ^ scale b * 1000000 → m ≤ greatest b
  upper-exact h =
      let a : m * 2 ^ (145 - scale b) + b % 2 ≤ above b * 15625 =
      factor-out (m * 2 ^ (145 - scale b)) (above b * 15625) (2 ^ scale b) (pow_pos (scale b)) (b % 2) (omega arith)
      (rw (million (above b) (2 ^ scale b), millimetre m (scale b) (in-range b range)) at h) in
      let c : m * 2 ^ (145 - scale b) ≤ above b * 15625 - b % 2 = omega arith in
      rw (greatest-is b) ((le-div_iff_mul-le unit-pos).1 c)

  upper-back : m ≤ greatest b → 4 * (m * 2 ^ 149) + b % 2 ≤ above b * 2 ^ scale b * 1000000
  upper-back h =
      let a : m * 2 ^ (145 - scale b) ≤ above b * 15625 - b % 2 = (le-div_iff_mul-le unit-pos).0 (rw (greatest-is b) at h) in
      let c : m * 2 ^ (145 - scale b) + b % 2 ≤ above b * 15625 = omega (arith, above-pos b) in
      rw (million (above b) (2 ^ scale b), millimetre m (scale b) (in-range b range))
      (factor-in (m * 2 ^ (145 - scale b)) (above b * 15625) (2 ^ scale b) (pow_pos (scale b)) (b % 2) c)

-- ---- zero, whose one millimetre is 0

zero-only : (m : ℕ) → 4 * (m * 2 ^ 149) + 0 ≤ 2000000 → m ≡ 0
zero-only zero h = refl
zero-only (suc m) h = absurd (too_far (suc m * 2 ^ 149) 0 0 (far m) (omega arith) h)

within-zero : (m : ℕ) → Within 0 m → m ≡ 0
unfolding above below scale significand
within-zero m h = zero-only m h.1

zero-within : Within 0 0
unfolding above below scale significand
zero-within = (lit≤ tt, lit≤ tt)

pub least_zero : least 0 ≡ 0
unfolding least
least_zero = refl

pub greatest-zero : greatest 0 ≡ 0
unfolding greatest above significand scale
greatest-zero = refl

-- ---- exactly the millimetres from the least to the greatest, for a float from 0 to 4,096 kilometres

pub within-between : (b m : ℕ) → b ≤ farthest → Within b m → (least b ≤ m) × (m ≤ greatest b)
within-between b m h w = elim (order 0 b) [
  | inl l ↦ (lower-exact b m h l w.0, upper-exact b m h l w.1)
  | inr l ↦
      let z : b ≡ 0 = omega arith in
      let e : m ≡ 0 = within-zero m (rw z at w) in
      rw (z, e, least_zero, greatest-zero) (omega arith, omega arith)
]

pub between-within : (b m : ℕ) → b ≤ farthest → least b ≤ m → m ≤ greatest b → Within b m
between-within b m h lo hi = elim (order 0 b) [
  | inl l ↦ (lower-back b m h l lo, upper-back b m h l hi)
  | inr l ↦
      let z : b ≡ 0 = omega arith in
      let g : m ≤ 0 = rw (z, greatest-zero) at hi in
      let e : m ≡ 0 = omega arith in
      rw (z, e) zero-within
]
