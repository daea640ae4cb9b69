-- What a reader of `memtable` must believe besides the definition of the store: what a put leaves in the bytes.
--   Appends  entries put behind the last of a place, and where they are taken from
--   Put      the number and the bytes after a put, and what may be put
pub mod Appends
pub mod Put
