-- `rest_kept` meets its contract: E, F and G are what was found of the rows, of the marks, of level 0, of the parts not in use and of levels
-- 1 to 3.
use mathlib.Core.Path.{◌≡◌, sym, ◌∙◌, ap}
use mathlib.Core.Bool.{true}
use native.Mathlib.Omega.{arith}
use lib.ListN.{length, take}
use Rattle.table.specs.Table.{zeros}
use Rattle.table.proofs.Tests.{and_parts}
use Rattle.ldc.specs.Lists.{all}
use Rattle.ldc.specs.Layout.{items_in, part_in, threshold_in}
use Rattle.check_places.specs.Links.{walk_e, walk_f}
use Rattle.check_places.specs.Parts.{walk_g}
use Rattle.check_quick.specs.Rest.{row_kept}
use Rattle.check_quick.proofs.RestLaws.{rows-hang, rows_apart, rows-rest}
use Rattle.check_quick.proofs.rest_kept.Goals as goal

pub levels_kept-requires : goal.levels_kept-requires
levels_kept-requires c =
    let a = c.args in
    let rows : all (row_kept a.area.now a.cards.now (threshold_in a.head.now)) a.cards.now ≡ true =
    sym c.rows_kept.ensures.0 ∙ c.if-not-rows_kept.false in
    ((c.requires.0.0, omega arith), rows_apart a.area.now a.cards.now (threshold_in a.head.now) rows)

pub returns : goal.returns
unfolding walk_e walk_f walk_g
returns c e =
    let a = c.args in
    let rows : all (row_kept a.area.now a.cards.now (threshold_in a.head.now)) a.cards.now ≡ true =
    sym c.rows_kept.ensures.0 ∙ c.if-not-rows_kept.false in
    let here : c.items.result.now ≡ items_in (length a.cards.now) a.lists.now a.head.now 0 =
    c.items.ensures ∙ ap (λ k. take k (part_in (length a.cards.now) a.lists.now 0)) c.length-len.ensures in
    let hang = rows-hang a.area.now a.cards.now (threshold_in a.head.now) rows in
    let rest = rows-rest a.area.now a.cards.now (threshold_in a.head.now) rows in
    let bare = sym c.all_bare.ensures ∙ c.if-not-all_bare.false in
    let zero = and_parts c.head_marks_good.result c.lists_rest_zero.result c.if-not-head_marks_good-lists_rest_zero.false in
    let levels = c.levels_kept.ensures e in
    let blank = c.wipe.ensures ∙ ap zeros c.requires.1 in
    record {
      e-kept = rw (hang, ← here, bare, levels.0);
      f-kept = rw (← blank, ← c.rows_kept.ensures.1 c.if-not-rows_kept.false) (sym c.marks_good.ensures ∙ c.if-not-marks_good.false);
      g-kept = rw (sym c.head_marks_good.ensures ∙ zero.0, rest, sym c.lists_rest_zero.ensures ∙ zero.1, levels.1);
    }
