-- What a reader of `compact_link` must believe besides the definition of the store: what the code may assume of the lent pieces, and what
-- each part of the step makes of them.
--   Range    the table responsible for a key, the slices to hang, and rows with slices hung on
--   Down     kept memory in which a table is chosen, and what taking it down gives
pub mod Range
pub mod Down
