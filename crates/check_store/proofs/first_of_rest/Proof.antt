-- `first_of_rest` meets its contract: the quick yes, or rule after rule.
use mathlib.Core.Path.{sym, ◌∙◌}
use borrow.Author.Rules.{rules}
use Rattle.check_store.specs.Rest.{rest_letter}
use Rattle.check_store.proofs.first_of_rest.Statement.{statement}
use Rattle.check_store.proofs.first_of_rest.Tie as tie

rest-kept-requires : tie.Need-rest_kept-requires
rest-kept-requires c κs = search rules

same_length : tie.Need-shape_of-marks-then-rest_kept
same_length c = search rules

returns : tie.Need-returns-then-rest_kept
unfolding rest_letter
returns c =
    let kept = c.rest_kept.ensures c.if-rest_kept.true in
    rw (kept.e-kept, kept.f-kept, kept.g-kept)

kept-requires : tie.Need-kept-requires
kept-requires c κs = search rules

same-length-2 : tie.Need-shape_of-marks-then-not-kept
same-length-2 c = search rules

returns-2 : tie.Need-returns-then-not-kept
unfolding rest_letter
returns-2 c = rw (sym c.kept.ensures ∙ c.if-not-kept.true)

kept-requires-2 : tie.Need-kept-requires-2
kept-requires-2 c κs = search rules

same-length-3 : tie.Need-shape_of-marks-then-not-kept-2
same-length-3 c = search rules

returns-3 : tie.Need-returns-then-not-kept-2
unfolding rest_letter
returns-3 c =
    let f = c in
    let e = f in
    rw (sym e.kept.ensures ∙ e.if-not-kept.false, sym f.kept-2.ensures ∙ c.if-not-kept-2.true)

kept-requires-3 : tie.Need-kept-requires-3
kept-requires-3 c κs = search rules

same-length-4 : tie.Need-shape_of-marks-then-not-kept-3
same-length-4 c = search rules

returns-4 : tie.Need-returns-then-not-kept-3
unfolding rest_letter
returns-4 c =
    let g = c in
    let f = g in
    let e = f in
    rw (sym e.kept.ensures ∙ e.if-not-kept.false, sym f.kept-2.ensures ∙ g.if-not-kept-2.false, sym c.kept-3.ensures ∙ c.if-not-kept-3.true)

same-length-5 : tie.Need-shape_of-marks
same-length-5 c = search rules

returns-5 : tie.Need-returns
unfolding rest_letter
returns-5 c =
    let g = c in
    let f = g in
    let e = f in
    rw (sym e.kept.ensures ∙ e.if-not-kept.false, sym f.kept-2.ensures ∙ g.if-not-kept-2.false, sym c.kept-3.ensures ∙ c.if-not-kept-3.false)

pub first_of_rest_spec : {M : Type 1} → statement M
first_of_rest_spec =
    tie.close (tie.spec rest-kept-requires same_length returns kept-requires same-length-2 returns-2 kept-requires-2 same-length-3 returns-3
    kept-requires-3 same-length-4 returns-4 same-length-5 returns-5)
