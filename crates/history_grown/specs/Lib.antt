-- What a reader of `history_grown` must believe besides what one of `history` and of `saved_history` does.
--   Grown   demand 3 of a history in which the store is saved, and opened over more places
pub mod Grown
