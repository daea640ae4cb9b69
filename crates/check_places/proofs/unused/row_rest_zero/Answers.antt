-- `row_rest_zero` meets its contract: the summary's words of a free place, then those behind the links.
use mathlib.Core.Path.{◌≡◌, ◌∙◌, ap}
use mathlib.Core.Bool.{not}
use native.Mathlib.Omega.{arith}
use borrow.Author.Tests.{not-true}
use lib.ListN.{take, drop}
use lib.Seq.{length-take-le}
use Rattle.table.specs.Table.{all_zero}
use Rattle.table.proofs.Tests.{and_parts}
use Rattle.ldc.specs.Store.{is_free}
use Rattle.ldc.specs.Layout.{card_of, link_start, summary_start, summary_in}
use Rattle.check_places.proofs.FoundLaws.{rest-free, rest-links, zeros-found}
use Rattle.check_places.proofs.unused.row_rest_zero.Goals as goal

pub returns-then-is_free-all_are : goal.returns-then-is_free-all_are
returns-then-is_free-all_are c =
    let row = c.args.row.now in
    let found : c.all_are.result ≡ all_zero (summary_in row) = c.all_are.ensures ∙ zeros-found _ ∙ ap all_zero c.summary_of.ensures.0 in
    let both = and_parts (is_free (card_of row)) (not (all_zero (summary_in row))) (rw (← c.is_free.ensures, ← found) c.if-is_free-all_are.true) in
    rest-free row both.0 (not-true (all_zero (summary_in row)) both.1)

pub links_rest_zero-requires : goal.links_rest_zero-requires
links_rest_zero-requires c = length-take-le summary_start c.args.row.now (omega arith)

pub returns : goal.returns
returns c =
    let row = c.args.row.now in
    let found : c.all_are.result ≡ all_zero (summary_in row) = c.all_are.ensures ∙ zeros-found _ ∙ ap all_zero c.summary_of.ensures.0 in
    c.links_rest_zero.ensures
    ∙ ap (λ n. all_zero (drop (link_start n) (take summary_start row))) c.link_count.ensures
    ∙ rest-links row (rw (← c.is_free.ensures, ← found) c.if-is_free-all_are.false)
