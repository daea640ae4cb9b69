-- The laws of `compact`.
--   Given    what backed pieces give
--   Merges   a merge, refused or done
--   Downs    a chosen table goes down
pub mod Given
pub mod Merges
pub mod Downs
