-- The nearest float of 24 digits to a fraction n / D, over whole numbers: `lib.Ieee.Scale.grid` picks s * 2 ^ j, for an s of 24 digits and
-- a j above 0, exactly where n / D lies within half the way to the next float above and below. By how many digits n / D has: as many as
-- the float, or, just below a power of two, one fewer.
use Prim.Native.Nat.{ℕ, suc, ◌+◌, ◌-◌, ◌*◌, ◌/◌, ◌%◌, ◌^◌, ◌≤◌, ◌<◌}
use mathlib.Core.Path.{◌≡◌, sym, ◌∙◌, ap, subst}
use mathlib.Core.Logic.{inl, inr}
use native.Mathlib.Nat.{lt_of_lt_of_le, lt_of_not-le, not-le_of_lt, eq-or-lt_of_le, le-div_iff_mul-le, div-lt_iff_lt-mul, suc-mul}
use native.Mathlib.Nat.{mul_comm, mul_assoc, mul_left_comm, mul-one, mul-pos, mul-le-mul_left, mul-le-mul_right, eq_of_mul-eq-mul_right, pow-succ'}
use native.Mathlib.Omega.{arith}
use lib.Pow.{pow-add, pow_pos, pow_mono}
use lib.Ieee.{size}
use lib.Ieee.Digits.{size-lt, size-le, size_reaches}
use lib.Ieee.Nearest.{closest}
use lib.Ieee.Order.{drop, kept}
use Rattle.reading.proofs.Near.{Near, order, closest-near, near-unique}

-- n is within half a last place of s * u, c quarters of it downwards and two upwards, and on an end only where s is even.
abbrev pub Gap : (n u s c : ℕ) → Type 0
Gap n u s c = (4 * (s * u) + s % 2 ≤ 4 * n + c * u) × (4 * n + s % 2 ≤ 4 * (s * u) + 2 * u)

-- ---- how many digits a fraction has

size-gt : (n j : ℕ) → 2 ^ j ≤ n → j < size n
size-gt n j h = lt_of_not-le (λ (g : size n ≤ j). not-le_of_lt (lt_of_lt_of_le (size-lt n) (pow_mono g)) h)

scaled : (a j D : ℕ) → 2 ^ (a + j) * D ≡ 2 ^ a * (D * 2 ^ j)
scaled a j D = ap (λ x. x * D) (pow-add 2 a j) ∙ mul_assoc (2 ^ a) (2 ^ j) D ∙ ap (λ x. 2 ^ a * x) (mul_comm (2 ^ j) D)

digits-hi : (n D : ℕ) → 0 < D → n < 16777216 * (D * 2 ^ drop 24 n D)
digits-hi n D h =
    let k = drop 24 n D in
    let z : size (n / D) ≤ 24 + k = omega arith in
    let l : n / D < 2 ^ (24 + k) = lt_of_lt_of_le (size-lt (n / D)) (pow_mono z) in
    subst (λ x. n < x) (scaled 24 k D) ((div-lt_iff_lt-mul h).0 l)

digits-lo : (n D : ℕ) → 0 < D → 0 < drop 24 n D → 8388608 * (D * 2 ^ drop 24 n D) ≤ n
digits-lo n D h p =
    let k = drop 24 n D in
    let z : 23 + k < size (n / D) = omega arith in
    subst (λ x. x ≤ n) (scaled 23 k D) ((le-div_iff_mul-le h).0 (size_reaches (n / D) (23 + k) z))

drop-is : (n D j : ℕ) → 0 < D → 8388608 * (D * 2 ^ j) ≤ n → n < 16777216 * (D * 2 ^ j) → drop 24 n D ≡ j
drop-is n D j h lo hi =
    let a : 23 + j < size (n / D) = size-gt (n / D) (23 + j) ((le-div_iff_mul-le h).1 (subst (λ x. x ≤ n) (sym (scaled 23 j D)) lo)) in
    let b : size (n / D) ≤ 24 + j = size-le (n / D) (24 + j) ((div-lt_iff_lt-mul h).1 (subst (λ x. n < x) (sym (scaled 24 j D)) hi)) in
    omega arith

-- the number kept has 24 digits, or is 2 ^ 24
kept-hi : (n u q : ℕ) → n < 16777216 * u → Near n u q → q ≤ 16777216
kept-hi n u q h a = elim (order 16777216 q) [
  | inl l ↦ let x : 16777217 * u ≤ q * u = mul-le-mul_right u l in absurd (omega arith)
  | inr l ↦ l
]

kept-lo : (n u q : ℕ) → 8388608 * u ≤ n → 0 < u → Near n u q → 8388608 ≤ q
kept-lo n u q h p a = elim (order q 8388608) [
  | inl l ↦ let x : q * u + u ≤ 8388608 * u = rw (suc-mul q u) at (mul-le-mul_right u l) in absurd (omega arith)
  | inr l ↦ l
]

double : (D i : ℕ) → D * 2 ^ suc i ≡ 2 * (D * 2 ^ i)
double D i = ap (λ x. D * x) (pow-succ' 2 i) ∙ mul_left_comm D 2 (2 ^ i)

-- ---- a float that is reached from above: n has the same last place
same_place : (n u s c : ℕ) → (s ≡ 8388608 → c ≡ 1) → (8388608 < s → c ≡ 2) → 8388608 ≤ s → 8388608 * u ≤ n → Near n u s → Gap n u s c
same_place n u s c one two lo h a = elim (eq-or-lt_of_le lo) [
  | inl e ↦ rw (one (sym e), sym e) (omega (arith, rw (sym e) at a), omega (arith, rw (sym e) at a))
  | inr l ↦ rw (two l) (omega arith, omega arith)
]

same-place-back : (n u s c : ℕ) → (s ≡ 8388608 → c ≡ 1) → (8388608 < s → c ≡ 2) → 8388608 ≤ s → Gap n u s c → Near n u s
same-place-back n u s c one two lo a = elim (eq-or-lt_of_le lo) [
  | inl e ↦ let b = rw (one (sym e)) at a in (omega arith, omega arith)
  | inr l ↦ let b = rw (two l) at a in (omega arith, omega arith)
]

-- ---- a power of two that is reached from below, where the last place is half as large

from-below : (n u : ℕ) → n < 16777216 * u → Near n u 16777216 → Gap n (2 * u) 8388608 1
from-below n u h a = (omega arith, omega arith)

from-below-back : (n u : ℕ) → n < 16777216 * u → Gap n (2 * u) 8388608 1 → Near n u 16777216 × (8388608 * u ≤ n)
from-below-back n u h a = ((omega arith, omega arith), omega arith)

-- a common power of two goes
cancel : (a b k d : ℕ) → a * 2 ^ k ≡ b * 2 ^ (k + suc d) → a ≡ b * (2 * 2 ^ d)
cancel a b k d e =
    eq_of_mul-eq-mul_right (2 ^ k) (pow_pos k) a (b * (2 * 2 ^ d))
    (e
    ∙ ap (λ x. b * x) (pow-add 2 k (suc d) ∙ mul_comm (2 ^ k) (2 ^ suc d) ∙ ap (λ x. x * 2 ^ k) (pow-succ' 2 d))
    ∙ sym (mul_assoc b (2 * 2 ^ d) (2 ^ k)))

-- the difference of two numbers, one beyond the other
beyond : (a b : ℕ) → a < b → b ≡ a + suc (b - suc a)
beyond a b h = omega arith

-- ---- the float of n / D is s * 2 ^ (i + 1) exactly within its gap
module _ (n D s i c : ℕ) (D-pos : 0 < D) (lo : 8388608 ≤ s) (hi : s < 16777216) (one : s ≡ 8388608 → c ≡ 1) (two : 8388608 < s → c ≡ 2) where
  -- fewer digits are dropped than j says: the number kept is 2 ^ 24
  only-power : (q P : ℕ) → q ≤ 16777216 → 0 < P → q ≡ s * (2 * P) → (s ≡ 8388608) × (P ≡ 1) × (q ≡ 16777216)
  only-power q P b p e =
      let x : s * (2 * P) ≡ 2 * (s * P) = mul_left_comm s 2 P in
      let y : s * 1 ≤ s * P = mul-le-mul_left s p in
      let z : s * 1 ≡ s = mul-one s in
      elim (eq-or-lt_of_le p) [
        | inl f ↦ (omega arith, sym f, omega arith)
        | inr g ↦ let w : s * 2 ≤ s * P = mul-le-mul_left s g in absurd (omega arith)
      ]

  -- more digits are dropped than j says: then s would have 25 digits
  too_long : (q P : ℕ) → 8388608 ≤ q → 0 < P → s ≡ q * (2 * P) → ⊥
  too_long q P b p e =
      let x : q * (2 * P) ≡ 2 * (q * P) = mul_left_comm q 2 P in
      let y : q * 1 ≤ q * P = mul-le-mul_left q p in
      let z : q * 1 ≡ q = mul-one q in
      omega arith

  pub grid-gap : kept 24 n D * 2 ^ drop 24 n D ≡ s * 2 ^ suc i → Gap n (D * 2 ^ suc i) s c
  grid-gap e =
      let k = drop 24 n D in
      let q = kept 24 n D in
      let u = D * 2 ^ k in
      let u-pos : 0 < u = mul-pos D-pos (pow_pos k) in
      let near : Near n u q = closest-near n u u-pos in
      let top : n < 16777216 * u = digits-hi n D D-pos in
      elim (order k (suc i)) [
        | inl l ↦
            let d = suc i - suc k in
            let f : suc i ≡ k + suc d = beyond k (suc i) l in
            let p = only-power q (2 ^ d) (kept-hi n u q top near) (pow_pos d) (cancel q s k d (e ∙ ap (λ x. s * 2 ^ x) f)) in
            let v : D * 2 ^ suc i ≡ 2 * u =
            ap (λ x. D * 2 ^ x) f
            ∙ ap (λ x. D * x) (pow-add 2 k (suc d) ∙ ap (λ x. 2 ^ k * x) (pow-succ' 2 d ∙ ap (λ x. 2 * x) p.1) ∙ mul_comm (2 ^ k) 2)
            ∙ mul_left_comm D 2 (2 ^ k) in
            rw (v, one p.0, p.0) (from-below n u top (rw p.2 at near))
        | inr l ↦ elim (eq-or-lt_of_le l) [
          | inl f ↦
              let same : q ≡ s = eq_of_mul-eq-mul_right (2 ^ k) (pow_pos k) q s (e ∙ ap (λ x. s * 2 ^ x) f) in
              rw f (same_place n u s c one two lo (digits-lo n D D-pos (omega arith)) (rw same at near))
          | inr g ↦
              let d = k - suc (suc i) in
              let f : k ≡ suc i + suc d = beyond (suc i) k g in
              let low : 8388608 ≤ q = kept-lo n u q (digits-lo n D D-pos (omega arith)) u-pos near in
              absurd (too_long q (2 ^ d) low (pow_pos d) (cancel s q (suc i) d (sym e ∙ ap (λ x. q * 2 ^ x) f)))
        ]
      ]

  pub gap-grid : Gap n (D * 2 ^ suc i) s c → kept 24 n D * 2 ^ drop 24 n D ≡ s * 2 ^ suc i
  gap-grid gap =
      let U = D * 2 ^ suc i in
      let h = D * 2 ^ i in
      let half_pos : 0 < h = mul-pos D-pos (pow_pos i) in
      let halves : U ≡ 2 * h = double D i in
      let full : s * U + U ≤ 16777216 * U = rw (suc-mul s U) at (mul-le-mul_right U hi) in
      let top : n < 16777216 * U = omega arith in
      elim (order n (8388608 * U)) [
        | inl l ↦
            let small : s ≡ 8388608 = elim (eq-or-lt_of_le lo) [
              | inl e ↦ sym e
              | inr g ↦
                  let x : 8388609 * U ≤ s * U = mul-le-mul_right U g in
                  let y : c ≡ 2 = two g in
                  absurd (omega (arith, rw y at gap))
            ] in
            let under : n < 16777216 * h = omega arith in
            let b = from-below-back n h under (rw (halves, one small, small) at gap) in
            let at_i : drop 24 n D ≡ i = drop-is n D i D-pos b.1 under in
            let kept-is : closest n h ≡ 16777216 = near-unique n h (closest n h) 16777216 half_pos (closest-near n h half_pos) b.0 in
            rw (at_i, kept-is, small, pow-succ' 2 i) (omega arith)
        | inr l ↦
            let at_j : drop 24 n D ≡ suc i = drop-is n D (suc i) D-pos l top in
            let U_pos : 0 < U = mul-pos D-pos (pow_pos (suc i)) in
            let kept-is : closest n U ≡ s = near-unique n U (closest n U) s U_pos (closest-near n U U_pos) (same-place-back n U s c one two lo gap) in
            rw (at_j, kept-is)
      ]

-- a fraction of 25 digits or more is picked as 2 ^ 24 at least
pub grid-big : (n D : ℕ) → 0 < D → 16777216 * D ≤ n → 16777216 ≤ kept 24 n D * 2 ^ drop 24 n D
grid-big n D h l =
    let k = drop 24 n D in
    let q = kept 24 n D in
    let u = D * 2 ^ k in
    let z : 24 < size (n / D) = size-gt (n / D) 24 ((le-div_iff_mul-le h).1 l) in
    let k-pos : 0 < k = omega arith in
    let u-pos : 0 < u = mul-pos h (pow_pos k) in
    let low : 8388608 ≤ q = kept-lo n u q (digits-lo n D h k-pos) u-pos (closest-near n u u-pos) in
    let two : 2 ^ 1 ≤ 2 ^ k = pow_mono k-pos in
    let x : 8388608 * 2 ^ k ≤ q * 2 ^ k = mul-le-mul_right (2 ^ k) low in
    omega arith
