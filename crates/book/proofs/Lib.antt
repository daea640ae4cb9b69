-- The laws of `book`, for the proofs of its callers.
--   Area    the bytes of a place that lies in the area
--   Every   loops that ask a test of every element
--   Rows    what a row's words say of its card and its links, and the rows that are written
--   Free    free places over rows are those of the store, and the loops that seek them
--   Heads   the head's words and the store's fields
--   Levels  level lists in their parts of the lent lists, and the loops that change them
--   Parts   where a level's part of the lists lies, and its items in use and behind them
--   Made    what making a store leaves
pub mod Area
pub mod Every
pub mod Rows
pub mod Free
pub mod Heads
pub mod Levels
pub mod Parts
pub mod Made
