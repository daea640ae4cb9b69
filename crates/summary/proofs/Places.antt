-- The three bits of a key are below 256: a sum modulo 256 is, and an exclusive or of bytes is a byte.
use Prim.Native.Nat.{ℕ, suc, ◌<◌}
use mathlib.Core.Path.{◌≡◌}
use mathlib.Core.List.{List, [], ◌∷◌}
use native.Mathlib.Omega.{arith}
use lib.Bits.{xor_lt}
use Rattle.coding.proofs.NumberLaws.{Bytes, bytes-bytes_of}
use Rattle.summary.specs.Bits.{key_bytes, exclusive, exclusive_bit, sum_bit, weighed_bit}

exclusive-byte : (s : List ℕ) → Bytes s → exclusive s < 256
exclusive-byte [] b = omega arith
exclusive-byte (x ∷ s) b = xor_lt 8 x (exclusive s) (b 0) (exclusive-byte s (λ i. b (suc i)))

module _ (k : ℕ) where
  pub exclusive-below : exclusive_bit k < 256
  unfolding exclusive_bit
  exclusive-below = exclusive-byte (key_bytes k) (bytes-bytes_of 8 k)

  pub sum_below : sum_bit k < 256
  unfolding sum_bit
  sum_below = omega arith

  pub weighed-below : weighed_bit k < 256
  unfolding weighed_bit
  weighed-below = omega arith

  -- The same of numbers that are these bits, as `bits_of` gives them.
  pub bits_below : (x y z : ℕ) → (x ≡ exclusive_bit k) × ((y ≡ sum_bit k) × (z ≡ weighed_bit k)) → (x < 256) × ((y < 256) × (z < 256))
  bits_below x y z e = (rw e.0 exclusive-below, (rw e.1.0 sum_below, rw e.1.1 weighed-below))
