-- What a reader of `read_gather` must believe besides what `read` says.
--   Beside     one list kept in the order of another list's rising keys
--   Gathered   entries taken in source after source, and the arrays that hold them
--   Sources    some sources taken into two arrays
--   Order      all that is read, source by source, and up to which key it is of interest
pub mod Beside
pub mod Gathered
pub mod Sources
pub mod Order
