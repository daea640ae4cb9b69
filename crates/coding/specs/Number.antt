-- Numbers in bytes, little-endian: the byte of lowest worth comes first. One definition each way, over the width.
use Rattle.std.specs.Prelude.{ℕ, zero, suc, ◌+◌, ◌*◌, ◌/◌, ◌%◌, ◌<◌, List, [], ◌∷◌, get_or}

-- The number in the bytes of `s` from `at` on, so many as the width says.
unfoldable pub number_at : (width : ℕ) → List ℕ → (at : ℕ) → ℕ
number_at zero s at = 0
number_at (suc w) s at = number_at w s (suc at) * 256 + get_or s at 0

-- The bytes of the number `n`, so many as the width says. What does not fit is left out.
unfoldable pub bytes_of : (width : ℕ) → (n : ℕ) → List ℕ
bytes_of zero n = []
bytes_of (suc w) n = n % 256 ∷ bytes_of w (n / 256)

-- The elements of a list are bytes. What is read beyond its end, 0, is one too.
abbrev pub Bytes : List ℕ → Type 0
Bytes s = (i : ℕ) → get_or s i 0 < 256
