-- A table (document 01): length in use (2 bytes), kind 32 (2), entry count (2), zero (2), then the entries, keys strictly rising.
-- The rest of the place is zero. The memory table has the same form, and may be empty.
use Rattle.std.specs.Prelude.{ℕ, zero, suc, ◌+◌, ◌-◌, ◌≤◌, ◌<◌, ◌*◌, ◌≡◌, Bool, true, ◌&&◌, leb, eqb}
use Rattle.std.specs.Prelude.{List, [], ◌∷◌, ◌++◌, length, take, drop}
use Rattle.std.proofs.lemmas.List.Edits.{sets}
use Rattle.coding.specs.Number.{number_at, bytes_of}
use Rattle.table.specs.Limits.{entry_head, entry_limit, table_head, table_limit, place_size}
use Rattle.table.specs.Entry.{Entry, entry_bytes, entry_length, length_at, kind_at, key_at, entry_at, entry_form}

unfoldable pub zeros : ℕ → List ℕ
zeros zero = []
zeros (suc n) = 0 ∷ zeros n

-- The bytes of some entries, one after the other.
unfoldable pub entries_bytes : List Entry → List ℕ
entries_bytes [] = []
entries_bytes (e ∷ es) = entry_bytes e ++ entries_bytes es

-- A table's length in use.
unfoldable pub table_length : List Entry → ℕ
table_length es = table_head + length (entries_bytes es)

-- The bytes of the place that holds a table of these entries.
unfoldable pub table_bytes : List Entry → List ℕ
table_bytes es =
    bytes_of 2 (table_length es) ++ bytes_of 2 32 ++ bytes_of 2 (length es) ++ bytes_of 2 0
    ++ entries_bytes es ++ zeros (place_size - table_length es)

unfoldable pub count_of : List ℕ → ℕ
count_of s = number_at 2 s 4

-- The n entries that stand from a position on, each behind the one before it.
unfoldable pub entries_at : (n : ℕ) → List ℕ → (at : ℕ) → List Entry
entries_at zero s at = []
entries_at (suc n) s at = entry_at s at ∷ entries_at n s (at + length_at s at)

-- The entries that a place shows.
unfoldable pub entries : List ℕ → List Entry
entries s = entries_at (count_of s) s table_head

-- Are these n entries from a position on, of the form above, keys rising from `least` on, and ending just at `end`?
unfoldable pub entries_good : (n : ℕ) → List ℕ → (at least end : ℕ) → Bool
entries_good zero s at least end = eqb at end
entries_good (suc n) s at least end =
    entry_form (kind_at s at) (length_at s at)
    && (leb least (key_at s at) && entries_good n s (at + length_at s at) (suc (key_at s at)) end)

-- Are all of these bytes zero?
unfoldable pub all_zero : List ℕ → Bool
all_zero [] = true
all_zero (b ∷ s) = eqb b 0 && all_zero s

-- Is this place a table of `fewest` to 16 entries?
unfoldable pub table_good : (fewest : ℕ) → List ℕ → Bool
table_good fewest s =
    eqb (kind_at s 0) 32
    && (leb fewest (count_of s)
    && (leb (count_of s) table_limit
    && (eqb (number_at 2 s 6) 0
    && (entries_good (count_of s) s table_head 0 (length_at s 0)
    && all_zero (drop (length_at s 0) s)))))

-- Rule C of one place: it holds a table.
unfoldable pub is_table : List ℕ → Bool
is_table s = table_good 1 s

-- Rule D: these are the bytes of a memory table.
unfoldable pub is_memory : List ℕ → Bool
is_memory s = table_good 0 s

-- A place's bytes that hold a table, and those that hold a memory table.
abbrev pub TablePlace : List ℕ → Type 0
TablePlace s = (length s ≡ place_size) × (is_table s ≡ true)

abbrev pub MemoryPlace : List ℕ → Type 0
MemoryPlace s = (length s ≡ place_size) × (is_memory s ≡ true)

-- An entry stands whole at a position of a table.
pub record Seated (s : List ℕ) (at : ℕ) : Type 0 where
  pub form : entry_form (kind_at s at) (length_at s at) ≡ true
  pub low : entry_head ≤ length_at s at
  pub high : length_at s at ≤ entry_limit
  pub room : at + length_at s at ≤ place_size

-- The place after an entry was put behind its last: the entry's bytes, the new length in use, one entry more.
unfoldable pub appended : Entry → List ℕ → List ℕ
appended e s =
    sets (sets (sets s (length_at s 0) (entry_bytes e)) 0 (bytes_of 2 (length_at s 0 + entry_length e))) 4 (bytes_of 2 (count_of s + 1))

-- The place that starts at a byte of the area.
abbrev pub place_at : (start : ℕ) → List ℕ → List ℕ
place_at start area = take place_size (drop start area)

-- The bytes of the place p.
abbrev pub place_of : (area : List ℕ) → (p : ℕ) → List ℕ
place_of area p = place_at (p * place_size) area

-- What may be appended: an entry of the right form, to a table that has begun, with room for it and fewer than 16 entries.
pub record Appends (s : List ℕ) (kind : ℕ) (value : List ℕ) : Type 0 where
  pub place : length s ≡ place_size
  pub begun : table_head ≤ length_at s 0
  pub form : entry_form kind (entry_head + length value) ≡ true
  pub room : length_at s 0 + (entry_head + length value) ≤ place_size
  pub few : count_of s < table_limit

-- A place in which a table has begun, with room for n entries more.
pub record RoomFor (n : ℕ) (s : List ℕ) : Type 0 where
  pub place : length s ≡ place_size
  pub begun : table_head ≤ length_at s 0
  pub small : length_at s 0 ≤ table_head + entry_limit * count_of s
  pub few : count_of s + n ≤ table_limit
