-- The laws of `saved_form`.
--   Fields   one field: what its tests say, and that it ends within the bytes
--   Turns    fields one behind the other, one turn at a time
--   Whole    the parts of the whole
pub mod Fields
pub mod Turns
pub mod Whole
