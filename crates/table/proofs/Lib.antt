-- The laws of `table`, for the proofs of its callers.
--   Tests      what a Bool that is true tells
--   Zeros      runs of zeros
--   Form       what `entry_form` says of a kind and a length
--   Position   where the entries of a table stand, and that all of them lie in the place
--   Room       what can be reached in a place
--   Turn       one turn of the loops
--   Found      a search of the bytes is a search of the entries
--   Entries    how many entries a place shows, the i-th, the first and the last
--   Bounds     keys between the least and the greatest
--   Writes     what the code writes is what the definitions give
--   Decode     decode after encode
--   Encode     encode after decode
--   Append     appending to the bytes of a table
--   Taken      entries taken from where they stand
--   Within     how many entries lie in a range
pub mod Tests
pub mod Zeros
pub mod Form
pub mod Position
pub mod Room
pub mod Turn
pub mod Found
pub mod Entries
pub mod Bounds
pub mod Writes
pub mod Decode
pub mod Encode
pub mod Append
pub mod Taken
pub mod Within
