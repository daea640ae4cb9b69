-- Sound stores.
--   CardFacts    free, live, frozen
--   Changes      what stands where in a store with one part changed
--   Sound        a sound store, in the form that the proofs use
--   SoundRules   a store is sound exactly if it keeps the rules as they are tested
--   TableLaws    the laws of `table`, in the words of the theory
--   Facts        what soundness tells of a place in a list, of a table and of a link
--   Frame        what is not touched stays as it is
--   Naming       which places are named by links
--   Places       the place taken is free
--   Written      what writing tables to places leaves
--   Hang         what hanging links leaves
--   Release      what releasing frozen places leaves
--   Spans        what is read of a table lies in its span; spans rise
--   Order        the read order in its parts
--   Lower        lower-lying levels: nothing is read there under a key that no span holds
--   Asked        the tables asked about a key give what the read order gives
--   Opened       those opened give what those asked give, and how many they are
--   ReadOrder    what is read is valid
--   TakenOut     a level with one table taken out and read after it
--   New          a new store is sound
--   Fits         marks and links with keys below 2^64
pub mod CardFacts
pub mod Changes
pub mod Sound
pub mod SoundRules
pub mod TableLaws
pub mod Facts
pub mod Frame
pub mod Naming
pub mod Places
pub mod Written
pub mod Hang
pub mod Release
pub mod Spans
pub mod Order
pub mod Lower
pub mod Asked
pub mod Opened
pub mod ReadOrder
pub mod TakenOut
pub mod New
pub mod Fits
