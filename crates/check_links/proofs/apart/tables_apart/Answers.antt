-- `tables_apart` meets its contract: each table is compared with those behind it.
use Prim.Native.Nat.{◌+◌}
use mathlib.Core.Path.{◌≡◌, sym, ◌∙◌}
use native.Mathlib.Omega.{arith}
use lib.ListN.{get_or, drop}
use Rattle.ldc.specs.Lists.{all}
use Rattle.book.specs.Rows.{links_on}
use Rattle.check_walk.specs.Links.{cross_apart}
use Rattle.check_walk.proofs.Items.{below-item}
use Rattle.check_walk.proofs.LinkLaws.{pairs-fails, pairs-passes}
use Rattle.check_walk.proofs.ApartLaws.{rest-items, below_rest}
use Rattle.check_links.proofs.apart.tables_apart.Goals as goal
use Rattle.check_links.proofs.apart.tables_apart.Goals.{After-rest_apart}

pub bounds-cards-from : goal.bounds-cards-from
bounds-cards-from c = rw c.from.ensures (below-item _ _ c.loop-i.i c.requires c.loop-i-test.true)

pub rest_apart-requires : goal.rest_apart-requires
rest_apart-requires c = rw (rest-items c.args.items.now (c.loop-i.i + 1)) (below_rest _ c.args.items.now (c.loop-i.i + 1) c.requires)

-- What the call says of the tables behind this one.
behind : (c : After-rest_apart)
    → let cards = c.args.cards.now in
    let items = c.args.items.now in
    all (λ q. cross_apart (links_on cards (get_or items c.loop-i.i 0)) (links_on cards q)) (drop (c.loop-i.i + 1) items) ≡ c.rest_apart.result
unfolding links_on
behind c = rw (← rest-items c.args.items.now (c.loop-i.i + 1), ← c.from.ensures) (sym c.rest_apart.ensures)

pub returns-then-not-rest_apart : goal.returns-then-not-rest_apart
returns-then-not-rest_apart c =
    pairs-fails (λ p q. cross_apart (links_on c.args.cards.now p) (links_on c.args.cards.now q)) c.args.items.now c.loop-i.i 0 (omega arith)
    c.loop-i.invariant (behind (goal.at.returns-then-not-rest_apart c).After-rest_apart ∙ c.if-not-rest_apart.true)

pub loop-i-preserved : goal.loop-i-preserved
loop-i-preserved c =
    pairs-passes (λ p q. cross_apart (links_on c.args.cards.now p) (links_on c.args.cards.now q)) c.args.items.now c.loop-i.i 0 (omega arith)
    c.loop-i.invariant (behind (goal.at.loop-i-preserved c).After-rest_apart ∙ c.if-not-rest_apart.false)
