-- The laws of `read_gather`.
--   Intake    what is gathered is the first entries of `gather`, and of what a range leaves of it
--   Ranks     where a key belongs, and what is put beside it there
--   Lifts     elements that go up by one
--   Inserts   a key and its word put among others: a law for each way out
--   Means     what the arrays hold after an entry was put in
--   Seats     an entry of a place, seen in the bytes that the place is a part of
--   Ranges    what is left of a table's range, entry by entry
--   Within    what a range leaves of rising entries
--   Taken     one turn of taking a table in
--   Steps     sources taken in one after the other
--   Scans     sources whose keys lie apart may be taken in either order
--   Narrow    where the arrays are full, a range may end at their last key
--   Going     sources taken in not in their order, with those that are left
--   Parts     a part of a list, as it is lent
--   Upward    the tables of a level below taken in upward
--   Whole     level by level, and the memory table behind the area
pub mod Intake
pub mod Ranks
pub mod Lifts
pub mod Inserts
pub mod Means
pub mod Seats
pub mod Ranges
pub mod Within
pub mod Taken
pub mod Steps
pub mod Scans
pub mod Narrow
pub mod Going
pub mod Parts
pub mod Upward
pub mod Whole
