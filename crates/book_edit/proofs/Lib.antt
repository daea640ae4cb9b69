-- The laws of `book_edit`, for the proofs of its callers.
--   Levels    a level's list in its part of the lent lists
--   Fitting   what the pieces of a store that fits are, and after one write
--   Keeping   the store that kept memory shows
pub mod Levels
pub mod Fitting
pub mod Keeping
