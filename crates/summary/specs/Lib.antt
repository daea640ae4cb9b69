-- What a reader of `summary` must believe (document 02, note 6).
--   Bits      the three bits of a key, and bit n of some bytes
--   Summary   the 32 bytes of a table's keys, the four words that hold them, which keys they may hold, and how many bits are set
--   Lanes     a word as four lanes of 16 bits, for the code that adds bytes
pub mod Bits
pub mod Lanes
pub mod Summary
