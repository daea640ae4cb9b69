-- What the proofs of `store_structs` share.
--   Ways    each call by its ways out
--   Carry   the cards carried to the rows and back, around the store's own function
pub mod Ways
pub mod Carry
