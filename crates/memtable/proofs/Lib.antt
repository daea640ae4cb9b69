-- The laws of `memtable`.
--   Turn    one turn of the loops
--   Split   a put among rising entries, in three parts
--   Build   appending entries to a table, and the three parts as a put
--   Serve   the ways out of a put, and the put that a store serves
pub mod Turn
pub mod Split
pub mod Build
pub mod Serve
