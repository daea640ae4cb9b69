-- `link_apart` meets its contract: link after link.
use mathlib.Core.Path.{◌∙◌}
use native.Mathlib.Omega.{arith}
use borrow.Author.Rules.{rules}
use borrow.Author.Tests.{tests}
use Prim.Native.Nat.{◌<◌}
use Rattle.std.proofs.lemmas.Iterator.{serves_from_Range}
use Rattle.ldc.specs.Layout.{link_at, link_limit}
use Rattle.check_walk.specs.Links.{apart_in}
use Rattle.book.specs.Row.{the_link}
use Rattle.book.proofs.Rows.{few}
use Rattle.check_links.proofs.Alls.{all-range, links-from}
use Rattle.check_links.proofs.apart.link_apart.Goals as goal

pub all-requires-clause-callable : goal.all-requires-clause-callable
all-requires-clause-callable c =
    serves_from_Range (λ x q k. search rules) (λ x l h. let n : x < link_limit = omega (arith, few c.args.row.now) in search rules)

pub returns : goal.returns
returns c =
    let row = c.args.row.now in
    let apart = apart_in (the_link c.args.g) in
    all-range (λ j. apart (link_at row j)) c.args.from c.links_held.result c.all.result (cc) c.all.ensures.ran
    (λ x q k. search (rules, tests)) (λ x q k. search (rules, tests))
    ∙ links-from apart row _ c.args.from (rw c.links_held.ensures)
