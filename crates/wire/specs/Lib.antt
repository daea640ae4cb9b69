-- What a reader of `wire` must believe besides the definition of the store.
--   Refusal why a call is refused, and its number and letter
--   Reply   the bytes of replies, room for them, and what writing one leaves
--   Rest    the requests of a list from a position on
pub mod Refusal
pub mod Reply
pub mod Rest
