-- The bytes that saving a book writes (document 02, note 4), field by field. Keys take 8 bytes, other numbers 2, the length of the whole 4.
use Rattle.std.specs.Prelude.{ℕ, ◌+◌, List, ◌++◌, map, length}
use Rattle.std.proofs.Math.Option.{Option, some, none}
use Rattle.coding.specs.Number.{bytes_of}
use Rattle.table.specs.Entry.{Entry}
use Rattle.table.specs.Table.{entries_bytes}
use Rattle.ldc.specs.Lists.{flat}
use Rattle.ldc.specs.Store.{Link, Card, links_of, Store, size}
use Rattle.ldc.specs.Layout.{state_word}
use Rattle.ldc.specs.Request.{key_size}

-- The kind of a saved book.
abbrev pub saved_kind : ℕ
saved_kind = 48

-- The bytes of the length of the whole, and of a number; a key has as many as in a request.
abbrev pub whole_size : ℕ
whole_size = 4

abbrev pub number_size : ℕ
number_size = 2

unfoldable pub number_bytes : ℕ → List ℕ
number_bytes n = bytes_of number_size n

unfoldable pub key_bytes : ℕ → List ℕ
key_bytes k = bytes_of key_size k

-- Each mark: 0 or 1, then the key, 0 if none.
unfoldable pub mark_bytes : Option ℕ → List ℕ
mark_bytes none = number_bytes 0 ++ key_bytes 0
mark_bytes (some k) = number_bytes 1 ++ key_bytes k

-- Place, low, high and number of a link.
unfoldable pub link_bytes : Link → List ℕ
link_bytes l = number_bytes l.place ++ key_bytes l.low ++ key_bytes l.high ++ number_bytes l.number

-- Each card: 0 free, 1 live, 2 frozen; link count; the links.
unfoldable pub card_bytes : Card → List ℕ
card_bytes c = number_bytes (state_word c) ++ number_bytes (length (links_of c)) ++ flat (map link_bytes (links_of c))

-- A list after its count.
unfoldable pub list_bytes : List ℕ → List ℕ
list_bytes ps = number_bytes (length ps) ++ flat (map number_bytes ps)

-- The memory entries after their count.
unfoldable pub memory_bytes : List Entry → List ℕ
memory_bytes es = number_bytes (length es) ++ entries_bytes es

-- All that stands behind the length of the whole: kind, P, T, cursor, marks, cards, the four lists, the memory entries.
unfoldable pub field_bytes : Store → List ℕ
field_bytes s =
    number_bytes saved_kind ++ number_bytes (size s) ++ number_bytes s.threshold ++ number_bytes s.cursor
    ++ flat (map mark_bytes s.marks)
    ++ flat (map card_bytes s.cards)
    ++ flat (map list_bytes s.levels)
    ++ memory_bytes s.memory

unfoldable pub saved_bytes : Store → List ℕ
saved_bytes s = bytes_of whole_size (whole_size + length (field_bytes s)) ++ field_bytes s
