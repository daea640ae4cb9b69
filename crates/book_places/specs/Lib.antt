-- What a reader of `book_places` must believe besides the definition of the store.
--   Taking  what taking a place leaves
pub mod Taking
