-- The laws of `history_lists`.
--   Starts   where pieces begin and end
--   Added    a history with one call more
--   Turn     one run more, and what was read off before
--   Joined   demand 3 of what is there at the end
pub mod Starts
pub mod Added
pub mod Turn
pub mod Joined
