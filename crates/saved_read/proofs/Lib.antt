-- The laws of `saved_read`.
--   Cards    the loops over cards and links
--   Levels   the loops over lists and their items, and the lengths of the lists
--   Table    the memory table's bytes
--   Sums     summaries worked out afresh, and the loop over rows that writes them
pub mod Cards
pub mod Levels
pub mod Table
pub mod Sums
