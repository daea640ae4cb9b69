-- A row that is bad, and one that is good, whose links are then marked.
use mathlib.Core.Path.{sym, ◌∙◌}
use mathlib.Core.Bool.{false≢true}
use mathlib.Core.List.{[]}
use native.Mathlib.Omega.{arith}
use Rattle.book.proofs.Every.{all-fails, all-passes, all_done}
use Rattle.check_walk.proofs.LinkLaws.{rows-turn, rows_end}
use Rattle.check_quick.specs.Rest.{row_kept}
use Rattle.check_quick.proofs.rows.rows_kept.Goals as goal

pub returns-then-not-row_kept : goal.returns-then-not-row_kept
returns-then-not-row_kept c =
    let l = c.loop-row in
    let a = c.args in (
      all-fails (row_kept a.area.now a.cards.now a.threshold) a.cards.now l.row-index [] c.loop-row-test.true l.invariant.0
          (sym c.row_kept.ensures ∙ c.if-not-row_kept.true),
      λ e. absurd (false≢true e),
    )

pub loop-row-preserved : goal.loop-row-preserved
loop-row-preserved c =
    let l = c.loop-row in
    let a = c.args in (
      all-passes (row_kept a.area.now a.cards.now a.threshold) a.cards.now l.row-index [] c.loop-row-test.true l.invariant.0
          (sym c.row_kept.ensures ∙ c.if-not-row_kept.false),
      l.invariant.1 ∙ rows-turn l.marks a.cards.now l.row-index c.loop-row-test.true ∙ rw c.mark_row.ensures,
    )

pub returns : goal.returns
returns c =
    let l = c.loop-row in
    let a = c.args in (
      all_done (row_kept a.area.now a.cards.now a.threshold) a.cards.now l.row-index (omega arith) l.invariant.0,
      λ _. sym (l.invariant.1 ∙ rows_end l.marks a.cards.now l.row-index (omega arith)),
    )
