-- The laws of `store_run`.
--   Runs   a run by its ways out
pub mod Runs
