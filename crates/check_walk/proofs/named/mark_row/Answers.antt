-- One link more is marked; where it names no place, the marks are what they were.
use mathlib.Core.Path.{◌≡◌, sym, ◌∙◌, ap}
use native.Mathlib.Omega.{arith}
use lib.ListN.{length, length-set}
use lib.Seq.{set_out}
use Rattle.ldc.specs.Layout.{link_at}
use Rattle.book.proofs.Rows.{few}
use Rattle.check_walk.proofs.LinkLaws.{mark-turn, mark-end}
use Rattle.check_walk.proofs.named.mark_row.Goals as goal
use Rattle.check_walk.proofs.named.mark_row.Goals.{then-p-marks, else-p-marks}

pub link_at-p-requires : goal.link_at-p-requires
link_at-p-requires c = omega (arith, few c.args.row.now, c.links_held-j-end.ensures)

pub loop-j-preserved : goal.loop-j-preserved
loop-j-preserved c =
    let row = c.args.row.now in
    let l = c.loop-j in
    let place : c.link_at-p.result.place ≡ (link_at row l.j).place = ap (λ l. l.place) c.link_at-p.ensures in
    let turned = l.invariant.1 ∙ mark-turn l.marks row l.j (omega (arith, c.links_held-j-end.ensures)) in
    elim c.if-p-marks.branch [
      | then-p-marks w ↦ (ap length w.marks-is ∙ simp length-set l.invariant.0, turned ∙ rw (← place, w.marks-is))
      | else-p-marks w ↦ (
        ap length w.marks-is ∙ l.invariant.0,
        turned ∙ rw (← place, set_out l.marks c.link_at-p.result.place 1 (omega (arith, w.if-p-marks.false, l.invariant.0)), w.marks-is),
      )
    ]

pub returns : goal.returns
returns c = sym (c.loop-j.invariant.1 ∙ mark-end c.loop-j.marks c.args.row.now c.loop-j.j (omega (arith, c.links_held-j-end.ensures)))
