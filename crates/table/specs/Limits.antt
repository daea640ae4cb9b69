-- The numbers that bound the formats (document 01, "Lent memory"; document 02, note 1), each said once.
use Rattle.std.specs.Prelude.{ℕ, ◌+◌}

-- a value has at most so many bytes; nothing else says this number, or one that follows from it
abbrev pub value_limit : ℕ
value_limit = 51

-- the bytes of an entry before its value: length, kind, key
abbrev pub entry_head : ℕ
entry_head = 12

-- an entry has at most so many bytes
abbrev pub entry_limit : ℕ
entry_limit = entry_head + value_limit

-- the bytes of a table before its entries: length in use, kind, entry count, zero
abbrev pub table_head : ℕ
table_head = 8

-- a table, and the memory table, has at most so many entries
abbrev pub table_limit : ℕ
table_limit = 16

-- a place has so many bytes
abbrev pub place_size : ℕ
place_size = 1024
