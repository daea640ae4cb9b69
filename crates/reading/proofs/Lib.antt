-- The laws of `reading`, for its proofs and those of its callers.
--   Ends       the two ends of an interval, and of the keys: in order, and on one line (for callers)
--   Bodies     a body by its length and form: how long one of good length is (for callers), and each way out of the code of `body`
--   Exactness  the claim of specs/Exact: a float's interval has the millimetres that round to it, and no other
--   Near       the nearest whole number to a fraction, a tie to the even one
--   Grid       the nearest float of 24 digits to a fraction
--   Floats     a float by its bits, as so many units
--   Halfway    the millimetres between a float's half ways are those that round to it
--   Bounds     and those from the least to the greatest
--   Range      which floats a reading may be, by their bits
--   Ways       each way out of the code of `interval`
--   Examples   the definitions worked out
pub mod Near
pub mod Grid
pub mod Floats
pub mod Halfway
pub mod Bounds
pub mod Range
pub mod Ways
pub mod Exactness
pub mod Ends
pub mod Bodies
pub mod Examples
