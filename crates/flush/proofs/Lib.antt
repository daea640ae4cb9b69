-- The laws of `flush`.
--   Flushing   what a flush leaves
pub mod Flushing
