-- `levels_rise` meets its contract: level after level.
use mathlib.Core.Path.{sym, ◌∙◌}
use native.Mathlib.Omega.{arith}
use Rattle.ldc.specs.Layout.{level_count}
use Rattle.book.proofs.Every.{from-fails, from-passes}
use Rattle.check_places.specs.Parts.{level_rises}
use Rattle.check_store.proofs.rule_g.levels_rise.Goals as goal

pub returns-then-not-rise : goal.returns-then-not-rise
unfolding level_rises
returns-then-not-rise c =
    from-fails (level_rises c.args.area.now c.args.cards.now c.args.lists.now c.args.head.now) level_count c.loop-n.n (omega arith)
    c.loop-n.invariant
    (rw (← c.length-len.ensures, ← c.items.ensures) (sym c.rise.ensures ∙ c.if-not-rise.true))

pub loop-n-preserved : goal.loop-n-preserved
unfolding level_rises
loop-n-preserved c =
    from-passes (level_rises c.args.area.now c.args.cards.now c.args.lists.now c.args.head.now) level_count c.loop-n.n (omega arith)
    c.loop-n.invariant
    (rw (← c.length-len.ensures, ← c.items.ensures) (sym c.rise.ensures ∙ c.if-not-rise.false))
