-- What a reader of `store_run` must believe besides the definition of the store.
--   Early   the number by which a run is refused before the store is looked at
--   Ran     what a run gives
pub mod Early
pub mod Ran
