-- The millimetres between a float's two half ways are those that round to it by IEEE 754. A float with a leading digit, whose last place is
-- above the smallest, is one that `Grid` picks; of the others, whose last place is the smallest, only zero has a whole millimetre.
use Prim.Native.Nat.{ℕ, zero, suc, ◌+◌, ◌-◌, ◌*◌, ◌%◌, ◌^◌, ◌≤◌, ◌<◌}
use mathlib.Core.Path.{◌≡◌, refl, sym, ◌∙◌, ap, subst}
use mathlib.Core.Logic.{inl, inr}
use mathlib.Core.Bool.{Bool, true, false, cond, ◌&&◌}
use native.Mathlib.Nat.{le_trans, add-mul, mul-one, mul_assoc, mul_left_comm, mul-le-mul_right}
use native.Mathlib.Omega.{arith}
use lib.Dec.{eqb, lit≤}
use lib.Ieee.{binary32, size}
use lib.Ieee.Scale.{grid}
use borrow.Author.Tests.{lt-ltb, le-ltb, eq-eqb, ne_eqb}
use Rattle.reading.specs.Reading.{exponent, fraction, significand, scale, above, below}
use Rattle.reading.specs.Exact.{RoundsTo}
use Rattle.reading.proofs.Near.{order}
use Rattle.reading.proofs.Grid.{Gap, grid-gap, gap-grid, grid-big}
use Rattle.reading.proofs.Floats.{units, significand-lt, round-units, units-round}

-- The exact distance of m millimetres lies between the half ways of the float b, and on one of them only if b is even. Both sides are in
-- quarters of a unit, times 1,000,000.
abbrev pub Within : (b m : ℕ) → Type 0
Within b m =
    (below b * 2 ^ scale b * 1000000 + b % 2 ≤ 4 * (m * 2 ^ 149)) × (4 * (m * 2 ^ 149) + b % 2 ≤ above b * 2 ^ scale b * 1000000)

above-is : (b : ℕ) → above b ≡ 4 * significand b + 2
unfolding above
above-is b = refl

-- half way down is one quarter or two
pub quarters-le : (t : Bool) → cond t 1 2 ≤ 2
quarters-le true = omega arith
quarters-le false = omega arith

-- the two ways to write the half ways
module _ (s q p n o : ℕ) (big : q ≤ 4 * s) where
  quarters : (4 * s - q) * p + q * p ≡ 4 * (s * p)
  quarters =
      let y : 4 * s - q + q ≡ 4 * s = omega arith in
      sym (add-mul (4 * s - q) q p) ∙ ap (λ w. w * p) y ∙ mul_assoc 4 s p

  lower-to : (4 * s - q) * p * 1000000 + o ≤ 4 * n → 4 * (s * (1000000 * p)) + o ≤ 4 * n + q * (1000000 * p)
  lower-to h = rw (mul_left_comm s 1000000 p, mul_left_comm q 1000000 p) (omega (arith, quarters))

  lower-from : 4 * (s * (1000000 * p)) + o ≤ 4 * n + q * (1000000 * p) → (4 * s - q) * p * 1000000 + o ≤ 4 * n
  lower-from h = omega (arith, quarters, rw (mul_left_comm s 1000000 p, mul_left_comm q 1000000 p) at h)

  halves : (4 * s + 2) * p ≡ 4 * (s * p) + 2 * p
  halves = add-mul (4 * s) 2 p ∙ ap (λ w. w + 2 * p) (mul_assoc 4 s p)

  upper-to : 4 * n + o ≤ (4 * s + 2) * p * 1000000 → 4 * n + o ≤ 4 * (s * (1000000 * p)) + 2 * (1000000 * p)
  upper-to h = rw (mul_left_comm s 1000000 p) (omega (arith, halves))

  upper-from : 4 * n + o ≤ 4 * (s * (1000000 * p)) + 2 * (1000000 * p) → 4 * n + o ≤ (4 * s + 2) * p * 1000000
  upper-from h = omega (arith, halves, rw (mul_left_comm s 1000000 p) at h)

-- ---- a float with a leading digit whose last place is above the smallest

module _ (b : ℕ) (normal : 2 ≤ exponent b) where
  -- half way down, in quarters
  c : ℕ
  c = 4 * significand b - below b

  pub significand-is : significand b ≡ 8388608 + fraction b
  unfolding significand
  significand-is = rw (ne_eqb (exponent b) 0 (omega arith))

  scale-is : scale b ≡ suc (exponent b - 2)
  unfolding scale
  scale-is = omega arith

  one : significand b ≡ 8388608 → c ≡ 1
  unfolding c below
  one e =
      let z : fraction b ≡ 0 = omega (arith, significand-is) in
      rw (eq-eqb (fraction b) 0 z, lt-ltb 1 (exponent b) normal) (omega (arith, significand-is))

  two : 8388608 < significand b → c ≡ 2
  unfolding c below
  two h = rw (ne_eqb (fraction b) 0 (omega (arith, significand-is))) (omega (arith, significand-is))

  below-is : below b ≡ 4 * significand b - c
  unfolding c below
  below-is = omega arith

  parity : significand b % 2 ≡ b % 2
  parity = rw significand-is (omega arith)

  c-small : c ≤ 4 * significand b
  unfolding c
  c-small = omega arith

  within-gap : (m : ℕ) → Within b m → Gap (m * 2 ^ 149) (1000000 * 2 ^ scale b) (significand b) c
  within-gap m h =
      let w = rw (below-is, above-is b) at h in
      rw parity (
        lower-to (significand b) c (2 ^ scale b) (m * 2 ^ 149) (b % 2) c-small w.0,
        upper-to (significand b) c (2 ^ scale b) (m * 2 ^ 149) (b % 2) c-small w.1,
      )

  gap_within : (m : ℕ) → Gap (m * 2 ^ 149) (1000000 * 2 ^ scale b) (significand b) c → Within b m
  gap_within m h =
      let w = rw parity at h in
      rw (below-is, above-is b) (
        lower-from (significand b) c (2 ^ scale b) (m * 2 ^ 149) (b % 2) c-small w.0,
        upper-from (significand b) c (2 ^ scale b) (m * 2 ^ 149) (b % 2) c-small w.1,
      )

  lead : 8388608 ≤ significand b
  lead = omega (arith, significand-is)

  normal-units : (m : ℕ) → Within b m → grid binary32 m 1000000 ≡ units b
  normal-units m h =
      rw scale-is
      (gap-grid (m * 2 ^ 149) 1000000 (significand b) (exponent b - 2) c (omega arith) lead (significand-lt b) one two
      (rw scale-is at (within-gap m h)))

  normal-within : (m : ℕ) → grid binary32 m 1000000 ≡ units b → Within b m
  normal-within m e =
      gap_within m
      (rw scale-is
      (grid-gap (m * 2 ^ 149) 1000000 (significand b) (exponent b - 2) c (omega arith) lead (significand-lt b) one two (rw scale-is at e)))

-- ---- a float whose last place is the smallest: only zero has a whole millimetre

-- a millimetre is far more than any of them
pub far : (m : ℕ) → 2 ^ 100 ≤ suc m * 2 ^ 149
far m =
    let one : 1 ≤ suc m = omega arith in
    let x : 1 * 2 ^ 149 ≤ suc m * 2 ^ 149 = mul-le-mul_right (2 ^ 149) one in
    le_trans (lit≤ tt) x

pub too_far : (n s o : ℕ) → 2 ^ 100 ≤ n → s < 2 ^ 24 → 4 * n + o ≤ (4 * s + 2) * 1 * 1000000 → ⊥
too_far n s o h l k = omega arith

none : (s o : ℕ) → (4 * s - 2) * 1 * 1000000 + o ≤ 0 → s ≡ 0
none s o h = omega arith

nil : (p a : ℕ) → (0 * p * 1000000 + 0 ≤ 0) × (0 + 0 ≤ a)
nil p a = (omega arith, omega arith)

grid-zero : grid binary32 0 1000000 ≡ 0
unfolding size
grid-zero = refl

grid-far : (m : ℕ) → 2 ^ 24 ≤ grid binary32 (suc m) 1000000
grid-far m = grid-big (suc m * 2 ^ 149) 1000000 (omega arith) (le_trans (lit≤ tt) (far m))

module _ (b : ℕ) (small : exponent b < 2) where
  low-scale : scale b ≡ 0
  unfolding scale
  low-scale = omega arith

  no_one : (t : Bool) → ◌≡◌ {A = ℕ} (cond (t && false) 1 2) 2
  no_one true = refl
  no_one false = refl

  low_below : below b ≡ 4 * significand b - 2
  unfolding below
  low_below = rw (le-ltb 1 (exponent b) (omega arith), no_one (eqb (fraction b) 0))

  low-units-is : units b ≡ significand b
  low-units-is = rw low-scale (mul-one (significand b))

  zero_bits : significand b ≡ 0 → b ≡ 0
  unfolding significand
  zero_bits e = elim (order (exponent b) 1) [
    | inl l ↦
        let z : exponent b ≡ 0 = omega arith in
        let f = rw (eq-eqb (exponent b) 0 z) at e in
        omega arith
    | inr l ↦
        let f = rw (ne_eqb (exponent b) 0 (omega arith)) at e in
        absurd (omega arith)
  ]

  low-units : (m : ℕ) → Within b m → grid binary32 m 1000000 ≡ units b
  low-units zero h =
      let w = rw (low_below, low-scale) at h.0 in
      grid-zero ∙ sym (low-units-is ∙ none (significand b) (b % 2) w)
  low-units (suc m) h =
      let w = rw (above-is b, low-scale) at h.1 in
      absurd (too_far (suc m * 2 ^ 149) (significand b) (b % 2) (far m) (significand-lt b) w)

  low-within : (m : ℕ) → grid binary32 m 1000000 ≡ units b → Within b m
  low-within zero e =
      let s : significand b ≡ 0 = sym low-units-is ∙ sym e ∙ grid-zero in
      let z : b ≡ 0 = zero_bits s in
      rw (low_below, s, z) (nil (2 ^ scale 0) (above 0 * 2 ^ scale 0 * 1000000))
  low-within (suc m) e =
      let g : 2 ^ 24 ≤ significand b = subst (λ x. 2 ^ 24 ≤ x) (e ∙ low-units-is) (grid-far m) in
      absurd (omega (arith, significand-lt b))

-- ---- both kinds of floats

pub within-rounds : (b m : ℕ) → b < 2139095040 → Within b m → RoundsTo b m
within-rounds b m h w =
    units-round m 1000000 b h (elim (order (exponent b) 2) [ inl l ↦ low-units b l m w | inr l ↦ normal-units b l m w ])

pub rounds-within : (b m : ℕ) → b < 2139095040 → RoundsTo b m → Within b m
rounds-within b m h e =
    let g = round-units m 1000000 b h e in
    elim (order (exponent b) 2) [ inl l ↦ low-within b l m g | inr l ↦ normal-within b l m g ]
