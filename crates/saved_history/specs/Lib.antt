-- What a reader of `saved_history` must believe besides the definition of the store and of a saved book.
--   History   runs, and between them saving and opening; demand 3 of all of it
pub mod History
