-- The laws of `serve_write`.
--   Values   the value in the body of a put
--   Turns    what serving leaves, from its parts; flush and tidy
pub mod Values
pub mod Turns
