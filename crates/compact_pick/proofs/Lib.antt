-- The laws of `compact_pick`.
--   Weights   links' numbers against a table's entry count
--   Dues      links and entries by rows and places and by the store; the due table, level by level
--   Fullest   the fullest of two levels, by products that stay small
--   Choices   the round and its two parts
--   Plans     the plan from its parts, the step that it names, and what it tells of a sound store
--   Given     kept memory shows the store that the plan is made for
pub mod Weights
pub mod Dues
pub mod Fullest
pub mod Choices
pub mod Plans
pub mod Given
