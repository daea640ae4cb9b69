-- What a reader of `compact_pick` must believe besides the definition of the store.
--   Calm    which level can have due merges
--   Due     what is asked of a table, and a store as far as area, cards, lists and head say it
--   Level   live tables by the head's words
--   Plan    the plan of a store: which table goes down or is merged, before it is known whether there is room
pub mod Calm
pub mod Due
pub mod Level
pub mod Plan
