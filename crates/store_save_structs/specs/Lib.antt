-- What a reader of `store_save_structs` must believe besides what one of `store_save` and of `store_structs` does.
--   Saved   what saving and opening over cards as structs return and leave, with working rows beside them
pub mod Saved
