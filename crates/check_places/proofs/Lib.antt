-- The laws of `check_places`, for the proofs of all rules.
--   Tally       how often each place is listed
--   GoodLaws    whether a link is good by itself
--   FoundLaws   what rules B and C, once found kept, say of the lists
--   WalkLaws    what the walk reads, and what the definition reads
--   MarkLaws    what marks say, for rules E and F
--   RuleLaws    the rules as they are walked are the rules of the definition
pub mod Tally
pub mod GoodLaws
pub mod FoundLaws
pub mod WalkLaws
pub mod MarkLaws
pub mod RuleLaws
