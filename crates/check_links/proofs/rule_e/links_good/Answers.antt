-- `links_good` meets its contract: link after link.
use Prim.Native.Nat.{◌<◌}
use mathlib.Core.Path.{◌∙◌}
use native.Mathlib.Omega.{arith}
use borrow.Author.Rules.{rules}
use borrow.Author.Tests.{tests}
use Rattle.std.proofs.lemmas.Iterator.{serves_from_Range}
use Rattle.ldc.specs.Layout.{link_at, link_limit}
use Rattle.ldc.specs.Rules.{link_good}
use Rattle.book.specs.Rows.{shown_by}
use Rattle.book.proofs.Rows.{few}
use Rattle.check_links.proofs.Alls.{all-range, links-from}
use Rattle.check_links.proofs.rule_e.links_good.Goals as goal

pub all-requires-clause-callable : goal.all-requires-clause-callable
all-requires-clause-callable c =
    serves_from_Range (λ x q k. search rules) (λ x l h. let n : x < link_limit = omega (arith, few c.args.row.now) in search rules)

pub returns : goal.returns
returns c =
    let row = c.args.row.now in
    let good = link_good (shown_by c.args.area.now c.args.cards.now) in
    all-range (λ j. good (link_at row j)) 0 c.links_held.result c.all.result (cc) c.all.ensures.ran
    (λ x q k. search (rules, tests)) (λ x q k. search (rules, tests))
    ∙ links-from good row _ 0 (rw c.links_held.ensures)
