-- The laws of `coding`, for its proofs and those of its callers.
--   NumberLaws  a number read is the number written
--   Sets        several elements of a list written at once
--   KeyLaws     lines and distances that fit their bits
--   Text        one turn of the loop that spells bytes
pub mod NumberLaws
pub mod Sets
pub mod KeyLaws
pub mod Text
