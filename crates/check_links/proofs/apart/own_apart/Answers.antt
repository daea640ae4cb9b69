-- `own_apart` meets its contract: each link is compared with those behind it.
use Prim.Native.Nat.{◌+◌, ◌<◌}
use mathlib.Core.Path.{◌∙◌}
use native.Mathlib.Omega.{arith}
use borrow.Author.Rules.{rules}
use borrow.Author.Tests.{tests}
use lib.ListN.{drop}
use Rattle.std.proofs.lemmas.Iterator.{serves_from_Range}
use Rattle.ldc.specs.Lists.{all}
use Rattle.ldc.specs.Layout.{link_at, link_limit}
use Rattle.check_walk.specs.Links.{apart_in}
use Rattle.book.specs.Row.{links_in}
use Rattle.book.proofs.Rows.{few}
use Rattle.check_links.proofs.Alls.{all-range, pairs-from}
use Rattle.check_links.proofs.apart.own_apart.Goals as goal

pub all-requires-clause-callable : goal.all-requires-clause-callable
all-requires-clause-callable c =
    serves_from_Range (λ x q k. search rules) (λ x l h. let n : x < link_limit = omega (arith, few c.args.row.now) in search rules)

pub returns : goal.returns
returns c =
    let row = c.args.row.now in
    all-range (λ j. all (apart_in (link_at row j)) (drop (j + 1) (links_in row))) 0 c.links_held.result c.all.result (cc) c.all.ensures.ran
    (λ x q k. search (rules, tests)) (λ x q k. search (rules, tests))
    ∙ pairs-from apart_in row _ 0 (rw c.links_held.ensures)
