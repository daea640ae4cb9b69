-- What a reader of `reading` must believe (document 02, note 8).
--   Reading   the whole millimetres that a reading stands for, a float's by its bits
--   Exact     the claim that these are the millimetres that round to the float, by IEEE 754
--   Body      the request's body: its length, and the keys of the reading in it
pub mod Reading
pub mod Exact
pub mod Body
