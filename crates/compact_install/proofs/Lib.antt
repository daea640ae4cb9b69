-- The laws of `compact_install`.
--   Many      several tables written
--   Placed    their places in the list for the old one
--   Freeing   which places are named and freed, over rows and in the store
--   Seek      the search of a level for what names a place
--   Linked    where links to a place hang
--   Merging   what the doing of a merge leaves
--   Ready     a merge that is ready, with any memory table
pub mod Many
pub mod Placed
pub mod Freeing
pub mod Seek
pub mod Linked
pub mod Merging
pub mod Ready
