-- What a reader of `store_structs` must believe besides the definition of the store.
--   Over   what a call over cards as structs returns and leaves, with working rows beside them
pub mod Over
