-- `release` meets its contract: one place more is freed or stays, by its flag.
use Rattle.std.proofs.Common.{arith, ◌≡◌, ◌+◌, ◌<◌, length, get_or, drop, false, sym, ap, ◌∙◌}
use mathlib.Core.Bool.{cond}
use lib.ListN.{set}
use Rattle.table.specs.Table.{zeros}
use Rattle.summary.specs.Summary.{summary_words}
use Rattle.ldc.specs.Store.{Link, free}
use Rattle.ldc.specs.Layout.{link_count, link_at, row_with}
use Rattle.compact_install.specs.Release.{freed_in, places_named}
use Rattle.compact_install.proofs.Freeing.{freed-turn, freed-end}
use Rattle.compact_install.proofs.release.release.Goals as goal
use Rattle.compact_install.proofs.release.release.Goals.{then-not-held-i, else-not-held-i}

pub loop-i-preserved : goal.loop-i-preserved
loop-i-preserved c =
    let l = c.loop-i in
    let row = c.args.row in
    let held = c.args.held in
    let near : l.i < link_count row = omega (arith, c.link_count-i-end.ensures, c.loop-i-test.true) in
    let flag : l.i < length held = omega (arith, near, c.requires.clear.few, c.well_formed) in
    let freed : c.if-not-held-i.cards ≡ cond (get_or held l.i false) l.cards (set l.cards (link_at row l.i).place (row_with free (zeros summary_words))) =
    elim c.if-not-held-i.branch [
      | then-not-held-i w ↦
          rw w.if-not-held-i.true
          (w.cards-is ∙ w.free.ensures
          ∙ ap (λ (x : Link). set l.cards x.place (row_with free (zeros summary_words))) w.link_at.ensures)
      | else-not-held-i w ↦ rw w.if-not-held-i.false w.cards-is
    ] in
    l.invariant ∙ freed-turn held row l.cards l.i c.requires.clear near flag
    ∙ ap (freed_in (drop (l.i + 1) held) (drop (l.i + 1) (places_named row))) (sym freed)

pub returns : goal.returns
returns c =
    let l = c.loop-i in
    sym
    (l.invariant
    ∙ freed-end c.args.held c.args.row l.cards l.i c.requires.clear (omega (arith, c.link_count-i-end.ensures, c.loop-i-test.false)))
