-- The laws of `compact_merge`.
--   Sources   what a merge has before it: at most nine lists of valid entries
--   Merged    what comes out is valid, and at most nine tables
--   Spots     which entry stands at which spot
--   Drops     whether a delete mark is dropped, level by level
--   Sifts     spots of entries that come out moved to the front
--   Comes     what a merge gathers and lets out
--   Fill      filling a table
--   Written   one table after the other
--   Given     what a caller needs of the tables that come out
pub mod Sources
pub mod Merged
pub mod Spots
pub mod Drops
pub mod Sifts
pub mod Comes
pub mod Fill
pub mod Written
pub mod Given
