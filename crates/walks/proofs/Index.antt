-- An index into a slice, scaled by the size of an element, as the code computes it before it makes the element's pointer.
use Prim.Native.Nat.{ℕ, suc, ◌+◌, ◌*◌, ◌<◌, ◌^◌}
use mathlib.Core.Path.{◌≡◌}
use native.Mathlib.Nat.{lt_of_le_of_lt, lt_trans, mul-le-mul_right}
use native.Mathlib.Omega.{arith}
use lib.Dec.{lit<}

-- Where the elements have room, the scaled index does not wrap.
pub scaled : (size n i : ℕ) → i < n → n * size < 2 ^ 63 → i * size < 2 ^ 64
scaled size n i within room = lt_trans (lt_of_le_of_lt (mul-le-mul_right size (omega (arith, within))) room) (lit< tt)

-- One more, as the code adds it.
pub one_more : (i : ℕ) → i + 1 ≡ suc i
one_more i = omega arith
