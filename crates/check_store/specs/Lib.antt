-- What a reader of `check_store` must believe besides the definition of the store.
--   Answer  what a check answers
--   Rest    the letter of rules E, F and G
pub mod Answer
pub mod Rest
