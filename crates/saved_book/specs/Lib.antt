-- Document 02, note 4, in its order. What a reader must believe besides the definition of the store stands here.
--   Saved    the bytes that saving writes, field by field
--   Form     where each field stands, and number 21: bytes not of this form
--   Opened   the store that saved bytes show over an area, the summaries worked out afresh (note 6)
--   Calls    save and open, with numbers 1, 3, 5, 21 and 22
pub mod Saved
pub mod Form
pub mod Opened
pub mod Calls
