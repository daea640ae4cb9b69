-- A fraction n / u rounded to the nearest whole number q, a tie to the even one, as two inequalities over whole numbers. The number that
-- `lib.Ieee.Nearest.closest` picks by the remainder meets them, and no other does. Nothing here is about floats.
use Prim.Native.Nat.{ℕ, suc, ◌+◌, ◌*◌, ◌/◌, ◌%◌, ◌≤◌, ◌<◌, compare, Ordering}
use mathlib.Core.Path.{◌≡◌, sym, ◌∙◌, ap, subst}
use mathlib.Core.Logic.{◌⊎◌, inl, inr}
use native.Mathlib.Nat.{add-zero, mod-lt, div-add-mod', add-mul, suc-mul, mul-le-mul_right, eq-or-lt_of_le}
use native.Mathlib.Omega.{arith}
use lib.Dec.{T, ltb, eqb, ltb→lt, nltb→le, eqb→eq, leb→le, nleb→lt, eqb_refl, is_le, compare_is_eq}
use mathlib.Core.Bool.{Bool, true, false, not}
use lib.Arith.{lt_of_le-ne}
use lib.Ieee.{nearest}
use lib.Ieee.Nearest.{closest}

-- q is at most half away from n / u, and less than that where q is odd.
abbrev pub Near : (n u q : ℕ) → Type 0
Near n u q = (2 * (q * u) + q % 2 ≤ 2 * n + u) × (2 * n + q % 2 ≤ 2 * (q * u) + u)

-- what `compare` says
abbrev Cmp : Ordering → ℕ → ℕ → Type 0
Cmp Ordering.lt a b = a < b
Cmp Ordering.eq a b = a ≡ b
Cmp Ordering.gt a b = b < a

cmp : (a b : ℕ) → Cmp (compare a b) a b
cmp a b = go (compare a b) (leb→le a b) (nleb→lt a b) (eqb→eq a b) (λ (e : a ≡ b). subst (λ (x : ℕ). T (eqb a x)) e (eqb_refl a))
  where
    go : (o : Ordering) → (T (is_le o) → a ≤ b) → (T (not (is_le o)) → b < a) → (T (compare_is_eq o) → a ≡ b)
        → (a ≡ b → T (compare_is_eq o)) → Cmp o a b
    go Ordering.lt h k e n = lt_of_le-ne (h tt) n
    go Ordering.eq h k e n = e tt
    go Ordering.gt h k e n = k tt

-- which of two numbers is the less
pub order : (a b : ℕ) → (a < b) ⊎ (b ≤ a)
order a b = go (ltb a b) (ltb→lt a b) (nltb→le a b)
  where
    go : (t : Bool) → (T t → a < b) → (T (not t) → b ≤ a) → (a < b) ⊎ (b ≤ a)
    go true h k = inl (h tt)
    go false h k = inr (k tt)

bit : (w : ℕ) → (w % 2 ≡ 0) ⊎ (w % 2 ≡ 1)
bit w = elim (order (w % 2) 1) [ inl h ↦ inl (omega arith) | inr h ↦ inr (omega arith) ]

-- the number picked by the remainder r of a whole part w
near_of : (n u w r : ℕ) (o : Ordering) → n ≡ w * u + r → r < u → Cmp o (r * 2) u → Near n u (nearest w o)
near_of n u w r Ordering.lt e h k = (omega arith, omega arith)
near_of n u w r Ordering.eq e h k = elim (bit w) [
  | inl z ↦ rw (z, add-zero w) (omega arith, omega arith)
  | inr z ↦ rw (z, add-mul w 1 u) (omega arith, omega arith)
]
near_of n u w r Ordering.gt e h k = rw (suc-mul w u) (omega arith, omega arith)

pub closest-near : (n u : ℕ) → 0 < u → Near n u (closest n u)
closest-near n u h = near_of n u (n / u) (n % u) (compare (n % u * 2) u) (sym (div-add-mod' n u)) (mod-lt n h) (cmp (n % u * 2) u)

-- no two numbers are both the nearest
near-below : (n u q p : ℕ) → 0 < u → q < p → Near n u q → Near n u p → ⊥
near-below n u q p h l a b =
    elim (eq-or-lt_of_le l) [
      | inl e ↦
          let x : p * u ≡ q * u + u = ap (λ z. z * u) (sym e) ∙ suc-mul q u in
          omega arith
      | inr g ↦
          let x : q * u + u + u ≤ p * u = rw (suc-mul (suc q) u, suc-mul q u) at (mul-le-mul_right u g) in
          omega arith
    ]

pub near-unique : (n u q p : ℕ) → 0 < u → Near n u q → Near n u p → q ≡ p
near-unique n u q p h a b = elim (order q p) [
  | inl l ↦ absurd (near-below n u q p h l a b)
  | inr l ↦ elim (eq-or-lt_of_le l) [ inl e ↦ sym e | inr g ↦ absurd (near-below n u p q h g b a) ]
]
