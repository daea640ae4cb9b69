-- `weighs` meets its contract: a number that is large enough settles it, else it is taken off both sides.
use mathlib.Core.Path.{sym, ◌∙◌, ap}
use native.Mathlib.Omega.{arith}
use Rattle.ldc.specs.Store.{Link}
use Rattle.book.proofs.Rows.{few}
use Rattle.compact_pick.proofs.Weights.{weighs-here, weighs-turn}
use Rattle.compact_pick.proofs.due.weighs.Goals as goal

pub link_at-number-requires : goal.link_at-number-requires
link_at-number-requires c = omega (arith, few c.args.row.now)

pub returns-then-left-number : goal.returns-then-left-number
returns-then-left-number c =
    let number = ap (λ (x : Link). x.number) c.link_at-number.ensures in
    sym (c.loop-j.invariant ∙ weighs-here c.args.row.now c.loop-j.j c.loop-j.left (omega arith) (omega (arith, number)))

pub loop-j-preserved : goal.loop-j-preserved
loop-j-preserved c =
    let number = ap (λ (x : Link). x.number) c.link_at-number.ensures in
    c.loop-j.invariant ∙ weighs-turn c.args.row.now c.loop-j.j c.loop-j.left (omega arith) (omega (arith, number)) ∙ rw (← number)
