-- What a reader of `saved_write` must believe besides the definition of a saved book.
--   Book   the book that cards, lists, head and memory table say, and what makes it one that can be written
--   Put    what writing some bytes leaves and gives
pub mod Book
pub mod Put
