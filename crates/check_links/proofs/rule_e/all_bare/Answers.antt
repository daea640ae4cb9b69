-- `all_bare` meets its contract: each item names a row, and is asked for the number of its links.
use Prim.Native.Nat.{ℕ, ◌<◌}
use mathlib.Core.Path.{◌≡◌}
use mathlib.Core.List.{[]}
use borrow.Author.Tests.{tests}
use lib.ListN.{length, get_or}
use Rattle.std.proofs.Common.{rules}
use Rattle.ldc.specs.Lists.{is_empty}
use Rattle.book.specs.Row.{links_in}
use Rattle.book.specs.Rows.{links_on}
use Rattle.book.proofs.Rows.{some-links, no-links}
use Rattle.check_places.specs.Links.{bare}
use Rattle.check_links.proofs.Alls.{served, below-all, all-items}
use Rattle.check_links.proofs.rule_e.all_bare.Goals as goal

pub all-requires-clause-callable : goal.all-requires-clause-callable
all-requires-clause-callable c =
    served (λ p. p < length c.args.cards.now) (rw c.iter.ensures.rest (below-all (length c.args.cards.now) c.args.items.now c.requires))
    (λ p x q k. search rules) (λ x h. search rules)

pub returns : goal.returns
unfolding bare links_on
returns c =
    let cards = c.args.cards.now in
    let none = λ (p : ℕ). is_empty (links_on cards p) in
    all-items none c.args.items.now c.all.result (cc) c.all.ensures.ran
    (λ x q k.
    let f : length (links_in (get_or cards x.now [])) ≡ 0 = search (rules, tests) in
    (search (rules, tests), no-links (links_in (get_or cards x.now [])) f))
    (λ x q k.
    let f : length (links_in (get_or cards x.now [])) ≡ 0 → ⊥ = search (rules, tests) in
    some-links (links_in (get_or cards x.now [])) f)
