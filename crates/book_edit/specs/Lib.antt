-- What a reader of `book_edit` must believe besides the definition of the store: the words that single writes leave.
--   Take      a place taken, over rows and head
--   Level     a level's list in its part of the lent lists
--   Shown     the stores between two writes of a step, and the pieces that show them
pub mod Take
pub mod Level
pub mod Shown
