-- `cards_hang` meets its contract: row after row.
use borrow.Author.Rules.{rules}
use borrow.Author.Tests.{tests}
use Rattle.check_places.specs.Links.{row_hangs, cards_hang}
use Rattle.check_links.proofs.Alls.{all-items}
use Rattle.check_links.proofs.rule_e.cards_hang.Goals as goal

pub returns : goal.returns
unfolding cards_hang
returns c =
    let hangs = row_hangs c.args.area.now c.args.cards.now c.args.threshold in
    all-items hangs c.args.cards.now c.all.result (cc) c.all.ensures.ran
    (λ x q k. search (rules, tests)) (λ x q k. search (rules, tests))
