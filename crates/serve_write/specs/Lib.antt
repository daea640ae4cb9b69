-- What a reader of `serve_write` must believe besides the definition of the store.
--   Turn   what serving one request leaves
pub mod Turn
