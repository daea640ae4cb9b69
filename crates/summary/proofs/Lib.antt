-- The laws of `summary`, for its proofs and those of its callers.
--   Places     the three bits of a key are below 256
--   Folded     the sums of a key's bytes, as the code works them out
--   Exclusive  the exclusive or of a key's bytes, as the code works it out
--   Marks      one bit set, and what is read then
--   Form       a summary is 32 bytes, and its words hold just these
--   Filled     one turn of the loop that makes a table's summary
--   Words      four words and the bytes in them, as the code reads them
--   Held       which bits a summary has; a key that is there has its bits set
--   Alike      keys in another order, or said twice, make the same summary
--   Same       words compared
--   Counted    how many bits are set
--   Examples   the definitions worked out
pub mod Places
pub mod Folded
pub mod Exclusive
pub mod Marks
pub mod Form
pub mod Filled
pub mod Words
pub mod Held
pub mod Alike
pub mod Same
pub mod Counted
pub mod Examples
