-- Serving requests, one and many.
--   ServeCases   serving, by cases
--   Keeps        every request keeps a sound store sound
--   KeepsWhole   and every place whole
--   KeepsFits    and all keys of marks and links below 2^64
--   Threshold    no request changes the threshold
--   Replies      replies are short, and say their length and result
--   Splits       the requests of a list of bytes have bytes for bodies
--   Events       serving a list, as events read back from the answer buffer
--   Runs         runs over lent memory, and histories of them
--   Alike, AlikeReads, AlikeProbe, AlikeSteps, AlikeServe   stores that differ in free places' bytes serve alike
pub mod ServeCases
pub mod Keeps
pub mod KeepsWhole
pub mod KeepsFits
pub mod Threshold
pub mod Replies
pub mod Splits
pub mod Events
pub mod Runs
pub mod Alike
pub mod AlikeReads
pub mod AlikeProbe
pub mod AlikeSteps
pub mod AlikeServe
