-- Going by cases, counting, lists.
--   Cases      by cases with the equation in hand; conjunctions of tests
--   Counts     how often an item stands in lists; sums over cards
--   ListLaws   laws of the small functions on lists
--   Replaced   a list with a member replaced
pub mod Cases
pub mod Counts
pub mod ListLaws
pub mod Replaced
