-- What proofs by hand share:
--   Local    a local that holds a struct, as what can be lent, and back
--   Index    an index that is scaled by the size of an element
--   Again    a slice that is lent again for a call, and comes back
--   Shared   a slice that is lent as shared for a call, and comes back
--   Ended    a `&mut` that is still owned at a return, as what says its last value
--   Truth    a test that came out true, and one that came out false
--   Branch   a test with one arm, which leaves the function
--   Locals   all locals of a function are freed in one step, whatever lies in them
--   Pieces   the types of the lent arrays, and their places in a signature
pub mod Local
pub mod Index
pub mod Again
pub mod Shared
pub mod Ended
pub mod Truth
pub mod Branch
pub mod Locals
pub mod Pieces
