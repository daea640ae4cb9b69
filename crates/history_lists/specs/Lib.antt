-- What a reader of `history_lists` and `history` must believe besides the definition of the store.
--   Pieces     lists and answer buffers told by their ends, and the history that can be read off them
--   Performs   demand 3, of what memory and answers hold at the end
pub mod Pieces
pub mod Performs
