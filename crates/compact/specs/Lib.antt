-- What a reader of `compact` must believe besides the definition of the store.
--   Tidied   what a tidy gives, against the definition's step
pub mod Tidied
