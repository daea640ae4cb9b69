-- What a reader of `saved_form` must believe besides the definition of a saved book.
--   Turns   what going over fields one behind the other answers
--   Form    whether bytes are of the form of a saved book, and where its parts stand
pub mod Form
pub mod Turns
