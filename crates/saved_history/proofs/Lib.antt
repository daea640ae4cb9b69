-- Demand 3 through saving and opening.
--   Acts      acts one behind the other, and runs alone among them
--   Reopens   saving and opening leave a start that agrees with what is lent
--   Through   the theorem
pub mod Acts
pub mod Reopens
pub mod Through
