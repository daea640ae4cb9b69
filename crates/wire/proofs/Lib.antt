-- The laws of `wire`.
--   Refusals  what refuses is not accepted
--   Written   what is written, number by number, is the reply
--   Splits    a list from a position on, one request at a time
--   Bodies    lengths of bodies, kind by kind
pub mod Refusals
pub mod Written
pub mod Splits
pub mod Bodies
