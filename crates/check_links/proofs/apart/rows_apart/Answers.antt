-- `rows_apart` meets its contract: each link of the one row is compared with all of the other.
use Prim.Native.Nat.{◌<◌}
use mathlib.Core.Path.{◌∙◌}
use native.Mathlib.Omega.{arith}
use borrow.Author.Rules.{rules}
use borrow.Author.Tests.{tests}
use Rattle.std.proofs.lemmas.Iterator.{serves_from_Range}
use Rattle.ldc.specs.Lists.{all}
use Rattle.ldc.specs.Store.{Link}
use Rattle.ldc.specs.Layout.{link_at, link_limit}
use Rattle.check_walk.specs.Links.{apart_in, cross_apart}
use Rattle.book.specs.Row.{links_in}
use Rattle.book.proofs.Rows.{few}
use Rattle.check_links.proofs.Alls.{all-range, links-from}
use Rattle.check_links.proofs.apart.rows_apart.Goals as goal

pub all-requires-clause-callable : goal.all-requires-clause-callable
all-requires-clause-callable c =
    serves_from_Range (λ x q k. search rules) (λ x l h. let n : x < link_limit = omega (arith, few c.args.a.now) in search rules)

pub returns : goal.returns
unfolding cross_apart
returns c =
    let a = c.args.a.now in
    let apart = λ (l : Link). all (apart_in l) (links_in c.args.b.now) in
    all-range (λ j. apart (link_at a j)) 0 c.links_held.result c.all.result (cc) c.all.ensures.ran
    (λ x q k. search (rules, tests)) (λ x q k. search (rules, tests))
    ∙ links-from apart a _ 0 (rw c.links_held.ensures)
