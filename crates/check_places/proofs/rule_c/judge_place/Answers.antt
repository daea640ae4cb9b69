-- `judge_place` meets its contract, by cases: the row is free, the place holds no table, or its bits are compared.
use mathlib.Core.Path.{◌≡◌, sym, ◌∙◌, ap}
use mathlib.Core.Bool.{true, false}
use Rattle.table.proofs.Position.{table-memory}
use Rattle.summary.specs.Summary.{same_words}
use Rattle.ldc.specs.Store.{is_free}
use Rattle.ldc.specs.Lent.{summary_good}
use Rattle.ldc.specs.Layout.{card_of, summary_in, table_summary}
use Rattle.check_places.proofs.rule_c.judge_place.Goals as goal

pub returns-then-is_free-clause-good : goal.returns-then-is_free-clause-good
unfolding summary_good
returns-then-is_free-clause-good c =
    let empty : is_free (card_of c.args.row.now) ≡ true = sym c.is_free.ensures ∙ c.if-is_free.true in
    rw empty

pub of_table-requires : goal.of_table-requires
of_table-requires c = (c.requires, table-memory _ (sym c.in_ok-greatest.ensures.good))

pub returns-then-has_summary-clause-good : goal.returns-then-has_summary-clause-good
unfolding summary_good table_summary
returns-then-has_summary-clause-good c =
    let used : is_free (card_of c.args.row.now) ≡ false = sym c.is_free.ensures ∙ c.if-is_free.false in
    let same = c.has_summary.ensures ∙ ap (same_words (summary_in c.args.row.now)) c.of_table.ensures in
    rw (used, ← c.in_ok-greatest.ensures.good, ← same, c.if-has_summary.true)

pub returns-else-has_summary-clause-good : goal.returns-else-has_summary-clause-good
unfolding summary_good table_summary
returns-else-has_summary-clause-good c =
    let used : is_free (card_of c.args.row.now) ≡ false = sym c.is_free.ensures ∙ c.if-is_free.false in
    let same = c.has_summary.ensures ∙ ap (same_words (summary_in c.args.row.now)) c.of_table.ensures in
    rw (used, ← c.in_ok-greatest.ensures.good, ← same, c.if-has_summary.false)
