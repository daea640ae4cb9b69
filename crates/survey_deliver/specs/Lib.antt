-- What a reader of `survey_deliver` must believe besides the definition of the store.
--   Ended   how running a list to its end ended
--   Whole   a list served whole over the program's new store, its answers in one piece; how far a list is served, and what making the next piece and
--           running a list to its end return
pub mod Ended
pub mod Whole
