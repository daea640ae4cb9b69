-- What a reader of `check_quick` must believe besides the definition of the store.
--   Rest  what is asked of a row by itself, and rules E, F and G together
pub mod Rest
