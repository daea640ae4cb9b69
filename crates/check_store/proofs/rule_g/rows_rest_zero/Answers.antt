-- `rows_rest_zero` meets its contract: row after row.
use mathlib.Core.List.{List}
use Prim.Native.Nat.{ℕ}
use borrow.Author.Rules.{rules}
use borrow.Author.Tests.{tests}
use Rattle.table.specs.Table.{all_zero}
use Rattle.ldc.specs.Layout.{row_rest}
use Rattle.check_links.proofs.Alls.{all-items}
use Rattle.check_store.proofs.rule_g.rows_rest_zero.Goals as goal

pub returns : goal.returns
returns c =
    all-items (λ (row : List ℕ). all_zero (row_rest row)) c.args.cards.now c.all.result (cc) c.all.ensures.ran
    (λ x q k. search (rules, tests)) (λ x q k. search (rules, tests))
