-- Demand 3.
--   Mirror       the store mirrors the latest-write map, so that it answers as the map does
--   MirrorKeeps  every request keeps the mirror
--   Slices       the slice list tracks the store
--   SlicesKeep   every request keeps list and store in step
--   Starts       a start that agrees with what is lent; a history leaves another
--   Demand3      the theorem
--   OtherKeys    no request changes the answer under another key; a run leaves a sound store sound
--   Examples     P1 to P10, and the cases of the slips
pub mod Mirror
pub mod MirrorKeeps
pub mod Slices
pub mod SlicesKeep
pub mod Starts
pub mod Demand3
pub mod OtherKeys
pub mod Examples
