-- The laws of `read_iterator`.
--   Places    a spot's place, and its entry there
--   Sifting   values moved to the front one by one
--   Rounds    rounds of gathering: what one takes in, and where it ends
--   Paging    the values of a range of a sound store, round by round
pub mod Places
pub mod Sifting
pub mod Rounds
pub mod Paging
