-- `count_passed` meets its contract: of the tables with a least key of at most the key all are in front, but for the last if its span
-- reaches the key.
use Rattle.std.proofs.Common.{◌-◌, sym, ◌∙◌, arith}
use borrow.Author.Tests.{leb-true, leb-false}
use Rattle.coding.specs.Number.{Bytes}
use Rattle.book.specs.Rows.{shown_by}
use Rattle.read.proofs.Rank.{rank_below, rank-above, spans}
use Rattle.read.proofs.level.count_passed.Goals as goal

pub returns-then-reaches : goal.returns-then-reaches
returns-then-reaches c =
    let a = c.args in
    let f = c.count_reached-end in
    let r = rank_below (shown_by a.area.now a.cards.now) a.key.value a.items.now (f.result - 1) (omega (arith, f.ensures.0))
    (rw c.from.ensures at (leb-true _ _ (sym c.reaches.ensures ∙ c.if-reaches.true))) in
    omega (arith, r, f.ensures.1.1)

pub returns-else-reaches : goal.returns-else-reaches
returns-else-reaches c =
    let a = c.args in
    let f = c.count_reached-end in
    let bytes : Bytes a.area.now = λ i. omega (arith, c.type_inv.area i) in
    let r = rank-above (shown_by a.area.now a.cards.now) 0 a.key.value a.items.now (f.result - 1)
    (spans a.area.now a.cards.now a.items.now bytes c.requires.0 c.requires.1) (omega (arith, f.ensures.0))
    (rw c.from.ensures at (leb-false _ _ (sym c.reaches.ensures ∙ c.if-reaches.false))) in
    omega (arith, r, f.ensures.1.0)
