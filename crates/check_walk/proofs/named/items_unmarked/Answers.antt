-- A table with a link that is marked, and one without.
use Prim.Native.Nat.{ℕ}
use mathlib.Core.Path.{sym, ◌∙◌}
use Rattle.ldc.specs.Lists.{all}
use Rattle.book.specs.Rows.{links_on}
use Rattle.check_walk.specs.Links.{unmarked}
use Rattle.book.proofs.Every.{all-fails, all-passes}
use Rattle.check_walk.proofs.Items.{below-item}
use Rattle.check_walk.proofs.LinkLaws.{all-over}
use Rattle.check_walk.proofs.named.items_unmarked.Goals as goal

pub loop-p-init : goal.loop-p-init
unfolding links_on
loop-p-init c = all-over (unmarked c.args.marks.now) c.args.cards.now c.args.items.now

pub bounds-cards-from : goal.bounds-cards-from
bounds-cards-from c = rw c.from.ensures (below-item _ _ c.loop-p.p-index c.requires c.loop-p-test.true)

pub returns-then-not-row_unmarked : goal.returns-then-not-row_unmarked
unfolding links_on
returns-then-not-row_unmarked c =
    let l = c.loop-p in
    let test = λ (p : ℕ). all (unmarked c.args.marks.now) (links_on c.args.cards.now p) in
    all-fails test c.args.items.now l.p-index 0 c.loop-p-test.true l.invariant
    (rw (← c.from.ensures) (sym c.row_unmarked.ensures ∙ c.if-not-row_unmarked.true))

pub loop-p-preserved : goal.loop-p-preserved
unfolding links_on
loop-p-preserved c =
    let l = c.loop-p in
    let test = λ (p : ℕ). all (unmarked c.args.marks.now) (links_on c.args.cards.now p) in
    all-passes test c.args.items.now l.p-index 0 c.loop-p-test.true l.invariant
    (rw (← c.from.ensures) (sym c.row_unmarked.ensures ∙ c.if-not-row_unmarked.false))
