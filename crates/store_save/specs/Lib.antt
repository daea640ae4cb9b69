-- What a reader of `store_save` must believe besides the definition of a saved book.
--   Left   what opening leaves in the pieces lent, by its number
pub mod Left
