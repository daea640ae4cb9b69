-- What a reader of `compact_merge` must believe besides the definition of the store.
--   Merge   what comes out of a merge, and the bytes of its tables
--   Spots   the entries that stand at the first of some spots
pub mod Merge
pub mod Spots
