-- The laws that the proofs of `examples` and of `formats` cite.
--   Built      the examples are valid, and the calls that build them may be made
--   Vectors    the bytes of the document, computed from the definitions
pub mod Built
mod Vectors
