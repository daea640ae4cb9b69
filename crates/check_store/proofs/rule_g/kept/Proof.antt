-- `kept` of rule G meets its contract, part after part.
use mathlib.Core.Path.{sym, ◌∙◌}
use borrow.Author.Rules.{rules}
use Rattle.check_places.specs.Parts.{walk_g}
use Rattle.check_store.proofs.rule_g.kept.Statement.{statement}
use Rattle.check_store.proofs.rule_g.kept.Tie as tie

head-marks-good-requires : tie.Need-head_marks_good-requires
head-marks-good-requires c κs = search rules

returns : tie.Need-returns-then-not-head_marks_good
unfolding walk_g
returns c = sym (rw (sym c.head_marks_good.ensures ∙ c.if-not-head_marks_good.true))

rows-rest-zero-requires : tie.Need-rows_rest_zero-requires
rows-rest-zero-requires c κs = search rules

returns-2 : tie.Need-returns-then-not-rows_rest_zero
unfolding walk_g
returns-2 c =
    let m = c in
    sym (rw (sym m.head_marks_good.ensures ∙ m.if-not-head_marks_good.false, sym c.rows_rest_zero.ensures ∙ c.if-not-rows_rest_zero.true))

lists-rest-zero-requires : tie.Need-lists_rest_zero-requires
lists-rest-zero-requires c κs = let f = c.requires in (f.long, f.fits)

returns-3 : tie.Need-returns-then-not-lists_rest_zero
unfolding walk_g
returns-3 c =
    let r = c in
    let m = r in
    sym (rw (
      sym m.head_marks_good.ensures ∙ m.if-not-head_marks_good.false,
      sym r.rows_rest_zero.ensures
          ∙ r.if-not-rows_rest_zero.false,
      sym c.lists_rest_zero.ensures ∙ c.if-not-lists_rest_zero.true,
    ))

levels-rise-requires : tie.Need-levels_rise-requires
levels-rise-requires c κs = search rules

returns-4 : tie.Need-returns
unfolding walk_g
returns-4 c =
    let l = c in
    let r = l in
    let m = r in
    c.levels_rise.ensures ∙ sym (rw (
      sym m.head_marks_good.ensures ∙ m.if-not-head_marks_good.false,
      sym r.rows_rest_zero.ensures
          ∙ r.if-not-rows_rest_zero.false,
      sym l.lists_rest_zero.ensures ∙ l.if-not-lists_rest_zero.false,
    ))

pub kept_spec : {M : Type 1} → statement M
kept_spec =
    tie.close (tie.spec head-marks-good-requires returns rows-rest-zero-requires returns-2 lists-rest-zero-requires returns-3
    levels-rise-requires returns-4)
