-- The laws of `store_save`.
--   Saves   saving by its ways out
--   Opens   opening by its ways out
pub mod Saves
pub mod Opens
