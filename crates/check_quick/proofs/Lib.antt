-- The laws of `check_quick`.
--   RestLaws  what is asked of each row, taken apart, and what follows of a level
pub mod RestLaws
