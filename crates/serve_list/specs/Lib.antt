-- What a reader of `serve_list` must believe besides the definition of the store.
--   Ran   what a run returns and leaves, from its parts; the requests of a list
pub mod Ran
