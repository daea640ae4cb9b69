-- `bump` meets its contract, by cases of its test.
use borrow.Author.Tests.{lt-ltb, le-ltb}
use Rattle.check_places.specs.Lists.{bumped}
use Rattle.check_places.proofs.rule_b.bump.Goals as goal

pub returns-then-k-lt2 : goal.returns-then-k-lt2
unfolding bumped
returns-then-k-lt2 c = rw (lt-ltb _ _ c.if-k-lt2.true)

pub returns-else-k-lt2 : goal.returns-else-k-lt2
unfolding bumped
returns-else-k-lt2 c = rw (le-ltb _ _ c.if-k-lt2.false)
