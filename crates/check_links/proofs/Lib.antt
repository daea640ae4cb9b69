-- The laws of `check_links`.
--   Alls   what an iterator's `all` says, as the definition has it
pub mod Alls
