-- What a reader of `table` must believe: the formats of document 01.
--   Limits   the numbers that bound values, entries, tables and places, one definition each
--   Entry    an entry, its bytes, and the entry that bytes show
--   Table    a table's bytes, the entries that a place shows, and rules C and D
--   Search   first matches in a list of entries, how many lie in a range, and where in the bytes they stand
--   Valid    the entries that a table may hold
pub mod Limits
pub mod Entry
pub mod Table
pub mod Search
pub mod Valid
