-- `rest_apart` meets its contract: each item names a row, and is asked.
use Prim.Native.Nat.{ℕ, ◌<◌}
use borrow.Author.Tests.{tests}
use lib.ListN.{length}
use Rattle.std.proofs.Common.{rules}
use Rattle.book.specs.Row.{links_in}
use Rattle.book.specs.Rows.{links_on}
use Rattle.check_walk.specs.Links.{cross_apart}
use Rattle.check_links.proofs.Alls.{served, below-all, all-items}
use Rattle.check_links.proofs.apart.rest_apart.Goals as goal

pub all-requires-clause-callable : goal.all-requires-clause-callable
all-requires-clause-callable c =
    served (λ p. p < length c.args.cards.now) (rw c.iter.ensures.rest (below-all (length c.args.cards.now) c.args.items.now c.requires))
    (λ p x q k. search rules) (λ x h. search rules)

pub returns : goal.returns
unfolding links_on
returns c =
    let apart = λ (q : ℕ). cross_apart (links_in c.args.row.now) (links_on c.args.cards.now q) in
    all-items apart c.args.items.now c.all.result (cc) c.all.ensures.ran
    (λ x q k. search (rules, tests)) (λ x q k. search (rules, tests))
