-- What the proofs of `store_save_structs` share.
--   Ways   each call by its ways out
pub mod Ways
