-- The laws of `history`.
--   One   one run, its buffer back in its place
pub mod One
