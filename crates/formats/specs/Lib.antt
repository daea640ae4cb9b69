-- What a reader of `formats` must believe besides what `table` says.
--   Examples   the examples of docs/FORMATS.md
pub mod Examples
