-- What a reader of `serve_read` must believe besides what `read` says of the searches.
--   Value    the reply to a look-up, and the bytes of a probe's reply before the value
--   Scan     what a run of values leaves in the answer of a scan
--   Tally    the counts of a report, over cards, head and memory table, and its reply
pub mod Value
pub mod Scan
pub mod Tally
