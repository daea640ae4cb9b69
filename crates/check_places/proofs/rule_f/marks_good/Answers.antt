-- A mark that is good, and one that is not.
use mathlib.Core.Path.{sym, ◌∙◌}
use native.Mathlib.Nat.{sub-zero}
use Rattle.book.proofs.Every.{from-fails, from-passes}
use Rattle.check_places.specs.Links.{mark_fits, marks_fit}
use Rattle.check_places.proofs.rule_f.marks_good.Goals as goal

pub loop-p-init : goal.loop-p-init
unfolding marks_fit
loop-p-init c = rw sub-zero

pub returns-then-not-mark_good : goal.returns-then-not-mark_good
unfolding mark_fits
returns-then-not-mark_good c =
    from-fails (mark_fits c.args.cards.now c.args.marks.now) _ c.loop-p.p c.loop-p-test.true c.loop-p.invariant
    (sym c.mark_good.ensures ∙ c.if-not-mark_good.true)

pub loop-p-preserved : goal.loop-p-preserved
unfolding mark_fits
loop-p-preserved c =
    from-passes (mark_fits c.args.cards.now c.args.marks.now) _ c.loop-p.p c.loop-p-test.true c.loop-p.invariant
    (sym c.mark_good.ensures ∙ c.if-not-mark_good.false)
