-- An entry (document 01): length of the whole (2 bytes), kind (2: 1 value, 2 delete mark), key (8), value (up to `value_limit`).
use Rattle.std.specs.Prelude.{ℕ, ◌+◌, ◌-◌, List, [], ◌++◌, Bool, cond, ◌&&◌, ◌||◌, leb, eqb, length, take, drop}
use Rattle.std.proofs.Math.Option.{Option, some, none}
use Rattle.coding.specs.Number.{number_at, bytes_of}
use Rattle.table.specs.Limits.{entry_head, entry_limit}

-- What stands under a key: a value's bytes, or a delete mark, which is `none`.
pub record Entry : Type 0 where
  pub key : ℕ
  pub value : Option (List ℕ)

abbrev pub kind_of : Option (List ℕ) → ℕ
kind_of (some v) = 1
kind_of none = 2

abbrev pub value_bytes : Option (List ℕ) → List ℕ
value_bytes (some v) = v
value_bytes none = []

unfoldable pub entry_length : Entry → ℕ
entry_length e = entry_head + length (value_bytes e.value)

-- The bytes of an entry.
unfoldable pub entry_bytes : Entry → List ℕ
entry_bytes e = bytes_of 2 (entry_length e) ++ bytes_of 2 (kind_of e.value) ++ bytes_of 8 e.key ++ value_bytes e.value

-- Length and kind of what stands at a position: all formats begin with these two.
abbrev pub length_at : List ℕ → ℕ → ℕ
length_at s at = number_at 2 s at

abbrev pub kind_at : List ℕ → ℕ → ℕ
kind_at s at = number_at 2 s (at + 2)

abbrev pub key_at : List ℕ → ℕ → ℕ
key_at s at = number_at 8 s (at + 4)

-- The entry of a kind, a key and a value's bytes.
unfoldable pub entry_of : (kind key : ℕ) → List ℕ → Entry
entry_of kind key v = record { key = key; value = cond (eqb kind 2) none (some v) }

-- The entry that the bytes from a position on show.
unfoldable pub entry_at : List ℕ → ℕ → Entry
entry_at s at = entry_of (kind_at s at) (key_at s at) (take (length_at s at - entry_head) (drop (at + entry_head) s))

-- The kinds of entries with the lengths that they may have: a value's is that of the head and its bytes, a delete mark's always
-- that of the head.
unfoldable pub entry_form : (kind length : ℕ) → Bool
entry_form kind len = (eqb kind 1 && (leb entry_head len && leb len entry_limit)) || (eqb kind 2 && eqb len entry_head)
