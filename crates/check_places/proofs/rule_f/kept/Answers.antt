-- `kept` of rule F meets its contract: the marks are those of all links.
use mathlib.Core.Path.{◌∙◌, ap}
use Rattle.table.specs.Table.{zeros}
use Rattle.check_places.specs.Links.{walk_f}
use Rattle.check_places.proofs.rule_f.kept.Goals as goal

pub returns : goal.returns
unfolding walk_f
returns c =
    let blank = c.wipe.ensures ∙ ap zeros c.requires in
    rw (← blank, ← c.mark_all.ensures) c.marks_good.ensures
