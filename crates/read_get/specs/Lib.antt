-- What a reader of `read_get` must believe besides what `ldc` says of the tables asked and opened.
--   Opens    what a walk through tables may assume, and what it finds and opens
pub mod Opens
