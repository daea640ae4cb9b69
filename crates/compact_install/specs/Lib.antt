-- What a reader of `compact_install` must believe besides the definition of the store.
--   Tables    tables to be written, and the places for them
--   Release   which places are named, over rows, and the rows after those that no table holds were freed
--   Merge     pieces that a step may be done to, a merge that is ready, and what it leaves
pub mod Tables
pub mod Release
pub mod Merge
