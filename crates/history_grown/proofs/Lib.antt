-- The laws of `history_grown`.
--   Granted  the number of a history with an opening in it, and what 0 says
--   Fronts   the front of lent memory, and its way back
--   Midway   the acts of a history with an opening in it
--   Grows    demand 3 of a history with an opening in it
pub mod Granted
pub mod Fronts
pub mod Midway
pub mod Grows
