-- `kept` of rule B meets its contract: the counts are those of all items, if the lists are good.
use mathlib.Core.Path.{sym, ◌∙◌, ap}
use Rattle.table.specs.Table.{zeros}
use Rattle.check_places.specs.Lists.{walk_b}
use Rattle.check_places.proofs.rule_b.kept.Goals as goal

pub returns-then-tally_all : goal.returns-then-tally_all
unfolding walk_b
returns-then-tally_all c =
    let good = sym c.tally_all.ensures.0 ∙ c.if-tally_all.true in
    let blank = c.wipe.ensures ∙ ap zeros c.requires.0 in
    rw (good, ← blank, ← c.tally_all.ensures.1 c.if-tally_all.true) c.places_good.ensures

pub returns-else-tally_all : goal.returns-else-tally_all
unfolding walk_b
returns-else-tally_all c = rw (← c.tally_all.ensures.0, c.if-tally_all.false)
