-- What a reader of `check_walk` must believe besides the definition of the store, over the plain lists that each function is lent.
--   Lists   items that name places
--   Links   links that are apart, marks of the places that they name, and lists whose tables can be read
--   Spans   spans that rise, and the greatest keys noted for them
pub mod Lists
pub mod Links
pub mod Spans
