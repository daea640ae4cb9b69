-- The laws of `serve`.
--   ByKind    serving, kind by kind
--   Unmoved   what serving leaves where no place and no card changes: reads, put and delete
pub mod ByKind
pub mod Unmoved
