-- One bit set. What is read then: the bit itself is set, every other is as it was. Bit j of an or is the greater of the two bits j,
-- and of the powers of two only the j-th has bit j.
use Prim.Native.Nat.{ℕ, suc, ◌+◌, ◌/◌, ◌%◌, ◌-◌, ◌^◌, ◌<◌, max}
use mathlib.Core.Path.{◌≡◌, ◌∙◌, ap}
use mathlib.Core.Bool.{true, ◌||◌, or-false, or-true}
use mathlib.Core.List.{List}
use native.Mathlib.Omega.{arith}
use native.Mathlib.Nat.{div_self, div-eq_of_lt, mul-mod_left, pow-suc}
use borrow.Author.Tests.{eqb-true, eqb-false, ltb-true, ltb-false}
use lib.Arith.{digits_mod}
use lib.Bits.{bit_or, or_shr, or_step}
use lib.Dec.{eqb, ltb}
use lib.ListN.{length, get_or}
use lib.Pow.{pow_pos, pow-lt, pow-add, shl-shr}
use lib.Seq.{get_or-set_same, get_or-set_other}
use Rattle.table.proofs.Tests.{cases}
use Rattle.summary.specs.Bits.{has_bit, with_bit}

-- Bit j of a number.
abbrev bit : (b j : ℕ) → ℕ
bit b j = b / 2 ^ j % 2

-- Bit j of an or.
or-bit : (a b j : ℕ) → bit (bit_or a b) j ≡ max (bit a j) (bit b j)
or-bit a b j =
    ap (λ x. x % 2) (or_shr a b j ∙ or_step (a / 2 ^ j) (b / 2 ^ j))
    ∙ digits_mod (bit_or (a / 2 ^ j / 2) (b / 2 ^ j / 2)) (omega arith)

-- Bit j of a power of two.
power-same : (j : ℕ) → bit (2 ^ j) j ≡ 1
power-same j = ap (λ x. x % 2) (div_self (pow_pos j))

power_below : (i j : ℕ) → i < j → bit (2 ^ i) j ≡ 0
power_below i j h = ap (λ x. x % 2) (div-eq_of_lt (pow-lt h))

power-above : (i j : ℕ) → j < i → bit (2 ^ i) j ≡ 0
power-above i j h =
    let d : ℕ = i - suc j in
    let e : i ≡ suc d + j = omega arith in
    ap (λ x. 2 ^ x / 2 ^ j % 2) e
    ∙ ap (λ x. x / 2 ^ j % 2) (pow-add 2 (suc d) j)
    ∙ ap (λ x. x % 2) (shl-shr (2 ^ suc d) j)
    ∙ ap (λ x. x % 2) (pow-suc 2 d)
    ∙ mul-mod_left (2 ^ d) 2

-- A byte with bit i set: that one is, and another is as it was.
set_same : (b j : ℕ) → bit (bit_or b (2 ^ j)) j ≡ 1
set_same b j = omega (arith, or-bit b (2 ^ j) j, power-same j)

set_other : (b i j : ℕ) → (i ≡ j → ⊥) → bit (bit_or b (2 ^ i)) j ≡ bit b j
set_other b i j h =
    let none : bit (2 ^ i) j ≡ 0 =
    cases (ltb i j) (λ q. power_below i j (ltb-true i j q)) (λ q. power-above i j (let w = ltb-false i j q in omega arith)) in
    omega (arith, or-bit b (2 ^ i) j, none)

-- Bit m with bit n set.
pub has_same : (n : ℕ) (s : List ℕ) → n / 8 < length s → has_bit (with_bit n s) n ≡ true
unfolding has_bit with_bit
has_same n s h =
    let b : ℕ = get_or s (n / 8) 0 in
    rw (get_or-set_same s (n / 8) (bit_or b (2 ^ (n % 8))) 0 h, set_same b (n % 8))

other_byte : (n m : ℕ) (s : List ℕ) → (m / 8 ≡ n / 8 → ⊥) → has_bit (with_bit n s) m ≡ has_bit s m
unfolding has_bit with_bit
other_byte n m s h = rw (get_or-set_other s (n / 8) (m / 8) (bit_or (get_or s (n / 8) 0) (2 ^ (n % 8))) 0 h)

other-bit : (n m : ℕ) (s : List ℕ) → n / 8 < length s → m / 8 ≡ n / 8 → (n % 8 ≡ m % 8 → ⊥)
    → has_bit (with_bit n s) m ≡ has_bit s m
unfolding has_bit with_bit
other-bit n m s l e h =
    let b : ℕ = get_or s (n / 8) 0 in
    rw (e, get_or-set_same s (n / 8) (bit_or b (2 ^ (n % 8))) 0 l, set_other b (n % 8) (m % 8) h)

pub has_other : (n m : ℕ) (s : List ℕ) → n / 8 < length s → (m ≡ n → ⊥) → has_bit (with_bit n s) m ≡ has_bit s m
has_other n m s l h =
    cases (eqb (m / 8) (n / 8))
    (λ q. let e : m / 8 ≡ n / 8 = eqb-true _ _ q in other-bit n m s l e (λ f. h (omega arith)))
    (λ q. other_byte n m s (eqb-false _ _ q))

-- Both at once.
pub has-with_bit : (n m : ℕ) (s : List ℕ) → n / 8 < length s → has_bit (with_bit n s) m ≡ has_bit s m || eqb m n
has-with_bit n m s l =
    cases (eqb m n)
    (λ q. let e : m ≡ n = eqb-true m n q in rw (q, or-true (has_bit s m)) (rw e (has_same n s l)))
    (λ q. rw (q, or-false (has_bit s m)) (has_other n m s l (eqb-false m n q)))
