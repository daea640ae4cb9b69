-- The laws of `check_walk`, for its proofs and those of the rules.
--   Items      what a list's items name
--   ShownLaws  cards, tables and links of the store that area and cards show
--   LinkLaws   marks, and tests of all links and of all pairs
--   SpanLaws   spans
--   ApartLaws  links that are apart, level by level
pub mod Items
pub mod ShownLaws
pub mod LinkLaws
pub mod SpanLaws
pub mod ApartLaws
