-- One item's count; an item that names no place ends the loop.
use mathlib.Core.Path.{refl, sym, ◌∙◌}
use native.Mathlib.Omega.{arith}
use borrow.Author.Tests.{lt-ltb}
use lib.Dec.{ltb}
use lib.ListN.{length-set}
use Rattle.check_walk.specs.Lists.{names_places}
use Rattle.book.proofs.Every.{all-passes, all_done}
use Rattle.check_places.proofs.Tally.{tally-turn, tally-end}
use Rattle.check_places.proofs.rule_b.tally.Goals as goal

pub loop-p-init : goal.loop-p-init
unfolding names_places
loop-p-init c = (refl, refl, refl)

pub loop-p-preserved : goal.loop-p-preserved
unfolding names_places
loop-p-preserved c =
    let l = c.loop-p in
    let a = c.args in (
      simp length-set l.invariant.0,
      all-passes (λ x. ltb x a.places) a.items.now l.p-index 0 c.loop-p-test.true l.invariant.1
          (rw (← c.from-p.ensures) (lt-ltb _ _ c.if-places-p.false)),
      l.invariant.2 ∙ tally-turn l.counts a.items.now l.p-index c.loop-p-test.true ∙ rw (c.bump.ensures, c.from-p.ensures),
    )

pub returns : goal.returns
unfolding names_places
returns c =
    let l = c.loop-p in
    let a = c.args in (
      all_done (λ x. ltb x a.places) a.items.now l.p-index (omega arith) l.invariant.1,
      λ _. sym (l.invariant.2 ∙ tally-end l.counts a.items.now l.p-index (omega arith)),
    )
