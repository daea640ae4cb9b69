-- The laws of `check_store`.
--   LetterLaws  the letter of the first broken rule, and the answer
pub mod LetterLaws
