-- What a reader of `read` must believe besides the definition of the store: what the code may assume of the lent pieces, and what it
-- finds in them.
--   Shown    the store that area and cards show, and what makes them legible
--   Found    where an entry was found
--   Level    how many tables of a level a key has passed
--   Look     levels that can be read
pub mod Shown
pub mod Found
pub mod Level
pub mod Look
