-- Lists of entries.
--   Finds   what `find` meets in lists that are put together
--   Keys    rising keys, and equal lists from equal finds
--   Cut     tables of 16
--   Few     how many entries can come together
pub mod Finds
pub mod Keys
pub mod Cut
pub mod Few
