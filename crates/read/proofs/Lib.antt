-- The laws of `read`.
--   Pieces    lists, rows and places of lent memory and of the store that it shows
--   Keys      the greater and the lesser of two keys
--   Shows     what legible area and cards show
--   Hits      what was found
--   Rank      the search of a level
--   Holds     whether a span of a level holds a key
--   Levels    the levels of kept memory, and the read order
--   Walks     how long a level's list is, and values
--   Spots     where the answer of a look-up stands, and its reply
pub mod Pieces
pub mod Keys
pub mod Shows
pub mod Hits
pub mod Rank
pub mod Holds
pub mod Levels
pub mod Walks
pub mod Spots
