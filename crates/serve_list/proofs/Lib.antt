-- The laws of `serve_list`.
--   Calms   where merges can be due, from request to request
--   Ahead   a list of requests, served one at a time
pub mod Calms
pub mod Ahead
