-- What a reader of `read_iterator` must believe besides what `read_gather` says.
--   Spots    where an entry stands: in the area, or behind it in the memory table
--   Values   values moved to the front of the arrays that hold entries
pub mod Spots
pub mod Values
