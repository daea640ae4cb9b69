-- A place that is good, and one that is not.
use mathlib.Core.Path.{sym, ◌∙◌}
use native.Mathlib.Nat.{sub-zero}
use Rattle.book.proofs.Every.{from-fails, from-passes}
use Rattle.check_places.specs.Lists.{place_good, places_good}
use Rattle.check_places.proofs.rule_b.places_good.Goals as goal

pub loop-p-init : goal.loop-p-init
unfolding places_good
loop-p-init c = rw sub-zero

pub returns-then-not-place_good : goal.returns-then-not-place_good
unfolding place_good
returns-then-not-place_good c =
    from-fails (place_good c.args.cards.now c.args.counts.now) _ c.loop-p.p c.loop-p-test.true c.loop-p.invariant
    (sym c.place_good.ensures ∙ c.if-not-place_good.true)

pub loop-p-preserved : goal.loop-p-preserved
unfolding place_good
loop-p-preserved c =
    from-passes (place_good c.args.cards.now c.args.counts.now) _ c.loop-p.p c.loop-p-test.true c.loop-p.invariant
    (sym c.place_good.ensures ∙ c.if-not-place_good.false)
