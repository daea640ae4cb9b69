-- The bytes of docs/FORMATS.md are those of the definitions. By computing them.
use Prim.Native.Nat.{◌+◌, ◌*◌, ◌^◌}
use mathlib.Core.Path.{◌≡◌, refl}
use mathlib.Core.List.{[], ◌∷◌, ◌++◌}
use Rattle.coding.specs.Number.{number_at, bytes_of}
use Rattle.table.specs.Entry.{entry_length, entry_bytes}
use Rattle.table.specs.Table.{zeros, count_of, entries_bytes, table_length, table_bytes}
use Rattle.table.specs.Search.{find_at, find_in, least_key, greatest_key}
use Rattle.std.specs.Prelude.{Some, None}
use Rattle.formats.specs.Examples.{a_under5, mark_under7, the_two}

key-bytes : bytes_of 8 (3 * 2 ^ 40 + 1250) ≡ 226 ∷ 4 ∷ 0 ∷ 0 ∷ 0 ∷ 3 ∷ 0 ∷ 0 ∷ []
unfolding bytes_of
key-bytes = refl

a-bytes : entry_bytes a_under5 ≡ 13 ∷ 0 ∷ 1 ∷ 0 ∷ 5 ∷ 0 ∷ 0 ∷ 0 ∷ 0 ∷ 0 ∷ 0 ∷ 0 ∷ 65 ∷ []
unfolding bytes_of entry_length entry_bytes
a-bytes = refl

mark-bytes : entry_bytes mark_under7 ≡ 12 ∷ 0 ∷ 2 ∷ 0 ∷ 7 ∷ 0 ∷ 0 ∷ 0 ∷ 0 ∷ 0 ∷ 0 ∷ 0 ∷ []
unfolding bytes_of entry_length entry_bytes
mark-bytes = refl

two_bytes : table_bytes the_two ≡ 33 ∷ 0 ∷ 32 ∷ 0 ∷ 2 ∷ 0 ∷ 0 ∷ 0 ∷ (entry_bytes a_under5 ++ entry_bytes mark_under7 ++ zeros 991)
unfolding bytes_of entry_length entry_bytes entries_bytes table_length table_bytes
two_bytes = refl

empty-bytes : table_bytes [] ≡ 8 ∷ 0 ∷ 32 ∷ 0 ∷ 0 ∷ 0 ∷ 0 ∷ 0 ∷ zeros 1016
unfolding bytes_of entries_bytes table_length table_bytes
empty-bytes = refl

-- Where keys stand in the table of the two.
find-5 : find_in (table_bytes the_two) 5 ≡ Some 8
unfolding number_at bytes_of entry_length entry_bytes count_of entries_bytes table_length table_bytes find_at find_in
find-5 = refl

find-6 : find_in (table_bytes the_two) 6 ≡ None
unfolding number_at bytes_of entry_length entry_bytes count_of entries_bytes table_length table_bytes find_at find_in
find-6 = refl

find-7 : find_in (table_bytes the_two) 7 ≡ Some 21
unfolding number_at bytes_of entry_length entry_bytes count_of entries_bytes table_length table_bytes find_at find_in
find-7 = refl

least-5 : least_key the_two ≡ 5
unfolding least_key
least-5 = refl

greatest-7 : greatest_key the_two ≡ 7
unfolding greatest_key
greatest-7 = refl
