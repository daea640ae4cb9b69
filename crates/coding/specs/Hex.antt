-- Bytes as text: a space and two hexadecimal digits each, the higher first.
use Rattle.std.specs.Prelude.{ℕ, ◌+◌, ◌/◌, ◌%◌, cond, List, [], ◌∷◌, ◌++◌, ltb}

-- The ASCII code of a digit below 16: `0` to `9`, then `A` to `F`.
abbrev pub hex_digit : ℕ → ℕ
hex_digit d = cond (ltb d 10) (48 + d) (55 + d)

-- A space and the two digits of a byte.
unfoldable pub byte_text : ℕ → List ℕ
byte_text b = 32 ∷ hex_digit (b / 16) ∷ hex_digit (b % 16) ∷ []

-- The text of bytes, one behind the other.
unfoldable pub bytes_text : List ℕ → List ℕ
bytes_text [] = []
bytes_text (b ∷ s) = byte_text b ++ bytes_text s
