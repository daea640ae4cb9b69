-- What a reader of `check_places` must believe besides the definition of the store: its rules over the plain lists that each function is lent.
--   Lists   the level lists, how often each place is listed, and rule B
--   Links   rule C, and what rules E and F say of links
--   Parts   what rule G says of spans and of parts not in use
pub mod Lists
pub mod Links
pub mod Parts
