-- What the walks of `store_owned` share.
--   Local   a local array of structs, lent as a slice for a call, and back
--   Lent    the same of 32 cards
pub mod Local
pub mod Lent
