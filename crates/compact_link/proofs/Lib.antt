-- The laws of `compact_link`.
--   Listings   a level left with its mark set, and an empty one joined
--   Slices     the slices to hang, one at a time
--   Rows       rows that gain a link
--   Turns      one turn of the loop that hangs slices
--   Hung       rows with slices hung on, and the store with slices hung on
--   Downs      a chosen table of kept memory goes down
pub mod Listings
pub mod Slices
pub mod Rows
pub mod Turns
pub mod Hung
pub mod Downs
