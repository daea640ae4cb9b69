-- `row_hangs` meets its contract: the count, then the links.
use borrow.Author.Tests.{le-leb, lt-leb}
use Rattle.check_places.specs.Links.{row_hangs}
use Rattle.check_links.proofs.rule_e.row_hangs.Goals as goal

pub returns-then-threshold-link_count : goal.returns-then-threshold-link_count
unfolding row_hangs
returns-then-threshold-link_count c = rw (← c.link_count.ensures, lt-leb _ _ c.if-threshold-link_count.true)

pub returns : goal.returns
unfolding row_hangs
returns c = rw (← c.link_count.ensures, le-leb _ _ c.if-threshold-link_count.false) c.links_good.ensures
