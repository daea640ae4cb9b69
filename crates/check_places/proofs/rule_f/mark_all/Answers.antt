-- One row's links, and those of the rows behind it.
use mathlib.Core.Path.{sym, ◌∙◌}
use native.Mathlib.Omega.{arith}
use Rattle.check_walk.proofs.LinkLaws.{rows-turn, rows_end}
use Rattle.check_places.proofs.rule_f.mark_all.Goals as goal

pub loop-row-preserved : goal.loop-row-preserved
loop-row-preserved c =
    let l = c.loop-row in
    l.invariant ∙ rows-turn l.marks c.args.cards.now l.row-index c.loop-row-test.true ∙ rw c.mark_row.ensures

pub returns : goal.returns
returns c = let l = c.loop-row in sym (l.invariant ∙ rows_end l.marks c.args.cards.now l.row-index (omega arith))
