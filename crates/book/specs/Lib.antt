-- What a reader of `book` must believe besides the definition of the store: the words that each function reads and writes.
--   Row     one row: its links, the row frozen, and with one link more
--   Rows    the rows of all cards, and the area beside them
--   Place   the first free place, and how many are free, over rows
--   Head    the ten words of the head as a value
--   Level   an item's index in a level list, and a list with one item replaced
--   Made    what making a store returns and leaves
--   Pieces  the five lent pieces of a call, before and after it
pub mod Row
pub mod Rows
pub mod Place
pub mod Head
pub mod Level
pub mod Made
pub mod Pieces
