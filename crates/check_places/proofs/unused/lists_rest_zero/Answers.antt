-- A level whose rest is not zero, and one whose rest is.
use mathlib.Core.Path.{sym, ◌∙◌}
use Rattle.ldc.specs.Layout.{level_count}
use Rattle.book.proofs.Every.{from-fails, from-passes}
use Rattle.check_places.specs.Parts.{list_rest_zero}
use Rattle.check_places.proofs.FoundLaws.{zeros-found}
use Rattle.check_places.proofs.unused.lists_rest_zero.Goals as goal

pub returns-then-not-all_are : goal.returns-then-not-all_are
unfolding list_rest_zero
returns-then-not-all_are c =
    from-fails (list_rest_zero c.args.places c.args.lists.now c.args.head.now) level_count c.loop-n.n c.loop-n-test.true c.loop-n.invariant
    (rw (← c.length-len.ensures, ← c.rest.ensures) (sym (zeros-found c.rest.result.now) ∙ sym c.all_are.ensures ∙ c.if-not-all_are.true))

pub loop-n-preserved : goal.loop-n-preserved
unfolding list_rest_zero
loop-n-preserved c =
    from-passes (list_rest_zero c.args.places c.args.lists.now c.args.head.now) level_count c.loop-n.n c.loop-n-test.true c.loop-n.invariant
    (rw (← c.length-len.ensures, ← c.rest.ensures) (sym (zeros-found c.rest.result.now) ∙ sym c.all_are.ensures ∙ c.if-not-all_are.false))
