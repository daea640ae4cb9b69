-- What a reader of `coding` must believe.
--   Number  numbers as bytes, lowest first
--   Key     a key of a line and a distance
--   Hex     bytes as text
pub mod Number
pub mod Key
pub mod Hex
