-- The summary of a table (document 02, note 6): 256 bits, in 32 bytes; for each key of the table three are set.
use Rattle.std.specs.Prelude.{ℕ, ◌+◌, List, [], ◌∷◌, ◌++◌, map, Bool, true, false, ◌&&◌, eqb}
use Rattle.std.specs.Int.Count.{ones}
use Rattle.coding.specs.Number.{number_at, bytes_of}
use Rattle.table.specs.Entry.{Entry}
use Rattle.table.specs.Table.{zeros}
use Rattle.summary.specs.Bits.{exclusive_bit, sum_bit, weighed_bit, has_bit, with_bit}

-- The bytes of a summary, and the words that they make.
abbrev pub summary_bytes : ℕ
summary_bytes = 32

abbrev pub summary_words : ℕ
summary_words = 4

-- For each key set three bits.
abbrev pub with_key : (key : ℕ) → List ℕ → List ℕ
with_key k s = with_bit (weighed_bit k) (with_bit (sum_bit k) (with_bit (exclusive_bit k) s))

abbrev pub with_keys : (keys : List ℕ) → List ℕ → List ℕ
with_keys [] s = s
with_keys (k ∷ ks) s = with_keys ks (with_key k s)

unfoldable pub summary_of : (keys : List ℕ) → List ℕ
summary_of ks = with_keys ks (zeros summary_bytes)

-- The keys of a table, those of delete marks too.
abbrev pub keys_of : List Entry → List ℕ
keys_of es = map (λ e. e.key) es

-- Are all three bits of a key set? A table with one of them clear does not hold it.
unfoldable pub may_hold : List ℕ → (key : ℕ) → Bool
may_hold s k = has_bit s (exclusive_bit k) && (has_bit s (sum_bit k) && has_bit s (weighed_bit k))

-- How many bits are set.
abbrev pub bits_set : List ℕ → ℕ
bits_set [] = 0
bits_set (b ∷ s) = ones b + bits_set s

-- ---- as words, eight bytes each, the lowest first

abbrev pub words_of : List ℕ → List ℕ
words_of s = number_at 8 s 0 ∷ number_at 8 s 8 ∷ number_at 8 s 16 ∷ number_at 8 s 24 ∷ []

abbrev pub bytes_in : (words : List ℕ) → List ℕ
bytes_in [] = []
bytes_in (w ∷ ws) = bytes_of 8 w ++ bytes_in ws

-- Are these words those?
abbrev pub same_words : List ℕ → List ℕ → Bool
same_words [] [] = true
same_words [] (y ∷ ys) = false
same_words (x ∷ xs) [] = false
same_words (x ∷ xs) (y ∷ ys) = eqb x y && same_words xs ys
