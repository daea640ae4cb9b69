-- What follows from the definition, a layer a folder:
--   Basics    going by cases, counting, lists
--   Entries   lists of entries: what is found in them, rising keys, cutting
--   Stores    sound stores: what stands where, spans, the read order, places taken and written
--   Steps     flush, move, link and merge: each keeps a store sound and changes no answer
--   Lent      lent memory and the store that it shows
--   Serving   every request keeps a store sound; runs and their events; stores that are alike serve alike
--   Demand    demand 3 as one theorem, and P1 to P10
pub mod Basics
pub mod Entries
pub mod Stores
pub mod Steps
pub mod Lent
pub mod Serving
pub mod Demand
