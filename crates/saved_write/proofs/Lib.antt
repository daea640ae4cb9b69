-- The laws of `saved_write`.
--   Puts      bytes written one behind the other
--   Widths    how many bytes each piece of a saved book has
--   Pieces    what is written of each piece is what the definition says
--   Whole     the pieces make the whole
--   Kept      the book of kept memory can be written, and its bytes are those of the store
pub mod Puts
pub mod Widths
pub mod Pieces
pub mod Whole
pub mod Kept
