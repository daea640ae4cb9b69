-- `link_unmarked` meets its contract, by cases of whether the link names a place.
use mathlib.Core.Path.{refl}
use borrow.Author.Tests.{le-leb}
use lib.ListN.{get_or-eq_default}
use Rattle.check_walk.specs.Links.{unmarked}
use Rattle.check_walk.proofs.named.link_unmarked.Goals as goal

pub returns-then-marks-l : goal.returns-then-marks-l
unfolding unmarked
returns-then-marks-l c = rw (get_or-eq_default c.args.marks.now 0 {n = c.args.l.place} c.if-marks-l.true) (le-leb _ _ c.if-marks-l.true)

pub returns-else-marks-l : goal.returns-else-marks-l
unfolding unmarked
returns-else-marks-l c = refl
