-- The laws of `read_get`.
--   Opening   what walks find and open, one after another
--   Asking    the tables asked of a table and of a level
--   Sources   what is opened of a table, its links and itself
--   Whole     the tables asked of all levels, and of a kept store
pub mod Opening
pub mod Asking
pub mod Sources
pub mod Whole
