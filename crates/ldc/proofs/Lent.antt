-- Lent memory and the store that it shows.
--   Changes   what is lent of a store with one part changed
--   Parts   there and back for each piece of the book
--   Round   a sound store is read back from its memory; sizes
--   Rules   a sound store's memory breaks no rule
--   Letters the first broken rule: none comes before it, and nothing about it stays open
--   Shape   what the types of the lent memory give
--   Shows   lent memory in which no rule is broken shows a sound store, and is that store's memory
pub mod Parts
pub mod Round
pub mod Rules
pub mod Letters
pub mod Shape
pub mod Shows
pub mod Changes
