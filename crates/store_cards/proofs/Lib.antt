-- The laws of `store_cards`.
--   Words   a list by its elements, and rows written one after the other
pub mod Words
