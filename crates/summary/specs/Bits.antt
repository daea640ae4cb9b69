-- The three bits of a key, and bit n of some bytes (document 02, note 6).
use Rattle.std.specs.Prelude.{ℕ, suc, ◌+◌, ◌*◌, ◌/◌, ◌%◌, ◌^◌, List, [], ◌∷◌, Bool, eqb, get_or, set}
use Rattle.std.specs.Int.Bits.{bit_xor, bit_or}
use Rattle.coding.specs.Number.{bytes_of}

-- ---- the three bits of a key

-- The eight bytes of a key, the lowest first.
abbrev pub key_bytes : (key : ℕ) → List ℕ
key_bytes k = bytes_of 8 k

-- The exclusive or of bytes.
abbrev pub exclusive : List ℕ → ℕ
exclusive [] = 0
exclusive (b ∷ s) = bit_xor b (exclusive s)

-- Their sum.
abbrev pub total : List ℕ → ℕ
total [] = 0
total (b ∷ s) = b + total s

-- The sum of byte i times i + 1, with i from the number given.
abbrev pub weighed : (i : ℕ) → List ℕ → ℕ
weighed i [] = 0
weighed i (b ∷ s) = b * (i + 1) + weighed (suc i) s

unfoldable pub exclusive_bit : (key : ℕ) → ℕ
exclusive_bit k = exclusive (key_bytes k)

unfoldable pub sum_bit : (key : ℕ) → ℕ
sum_bit k = total (key_bytes k) % 256

unfoldable pub weighed_bit : (key : ℕ) → ℕ
weighed_bit k = weighed 0 (key_bytes k) % 256

-- ---- bit n of some bytes: bit n mod 8 of byte n / 8

-- Is it set?
unfoldable pub has_bit : List ℕ → (n : ℕ) → Bool
has_bit s n = eqb (get_or s (n / 8) 0 / 2 ^ (n % 8) % 2) 1

-- The bytes with it set.
unfoldable pub with_bit : (n : ℕ) → List ℕ → List ℕ
with_bit n s = set s (n / 8) (bit_or (get_or s (n / 8) 0) (2 ^ (n % 8)))
