-- The laws of `survey_deliver`.
--   Behind    the list behind its first requests
--   Each      serving all of a list: stretch by stretch, and in one run with room enough
--   Fresh     the program's new store
--   Along     a list served up to a position, over one store
--   Pieces    one piece after the other, to the end
--   Handed    what a writer holds after the pieces handed on
--   Stretch   a run over the rest of a list gives the next piece
pub mod Behind
pub mod Each
pub mod Fresh
pub mod Along
pub mod Pieces
pub mod Handed
pub mod Stretch
