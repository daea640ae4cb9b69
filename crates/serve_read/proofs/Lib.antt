-- The laws of `serve_read`.
--   Decided   the reply to a look-up, by the entry that decides
--   Probed    the reply to a probe
--   Fills     values written one behind the other
--   Reply     the reply to a scan
--   Turn      one turn of the loop that counts cards
--   Counted   the counts of the report
pub mod Decided
pub mod Probed
pub mod Fills
pub mod Reply
pub mod Turn
pub mod Counted
