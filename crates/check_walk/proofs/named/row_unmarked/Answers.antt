-- A link that is marked, and one that is not.
use mathlib.Core.Path.{sym, ◌∙◌, ap}
use native.Mathlib.Omega.{arith}
use Rattle.check_walk.specs.Links.{unmarked}
use Rattle.book.proofs.Rows.{few, links-fails, links-passes}
use Rattle.check_walk.proofs.named.row_unmarked.Goals as goal

pub link_at-requires : goal.link_at-requires
link_at-requires c = omega (arith, few c.args.row.now, c.links_held-j-end.ensures)

pub returns-then-not-link_unmarked : goal.returns-then-not-link_unmarked
returns-then-not-link_unmarked c =
    links-fails c.args.row.now (unmarked c.args.marks.now) c.loop-j.j (omega (arith, c.links_held-j-end.ensures)) c.loop-j.invariant
    (ap (unmarked c.args.marks.now) (sym c.link_at.ensures) ∙ sym c.link_unmarked.ensures ∙ c.if-not-link_unmarked.true)

pub loop-j-preserved : goal.loop-j-preserved
loop-j-preserved c =
    links-passes c.args.row.now (unmarked c.args.marks.now) c.loop-j.j (omega (arith, c.links_held-j-end.ensures)) c.loop-j.invariant
    (ap (unmarked c.args.marks.now) (sym c.link_at.ensures) ∙ sym c.link_unmarked.ensures ∙ c.if-not-link_unmarked.false)
