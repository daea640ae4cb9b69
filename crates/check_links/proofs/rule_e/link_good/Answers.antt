-- `link_good` meets its contract, test after test.
use mathlib.Core.Path.{sym, ◌∙◌}
use native.Mathlib.Omega.{arith}
use Rattle.book.specs.Row.{the_link}
use Rattle.coding.proofs.KeyLaws.{lt_holds, lt_fails}
use Rattle.check_places.proofs.GoodLaws.{crossed, nowhere, thawed, sliced, frozen-table}
use Rattle.check_links.proofs.rule_e.link_good.Goals as goal

pub returns-then-lt : goal.returns-then-lt
returns-then-lt c =
    sym (crossed c.args.area.now c.args.cards.now (the_link c.args.l)
    (lt_holds c.args.l.high.value c.args.l.low.value (sym c.if-lt.true ∙ c.lt.ensures)))

pub returns-then-cards-p : goal.returns-then-cards-p
returns-then-cards-p c = sym (nowhere c.args.area.now c.args.cards.now (the_link c.args.l) c.if-cards-p.true)

pub returns-then-not-is_frozen : goal.returns-then-not-is_frozen
returns-then-not-is_frozen c =
    sym (thawed c.args.area.now c.args.cards.now (the_link c.args.l) (sym c.is_frozen.ensures ∙ c.if-not-is_frozen.true))

pub numbered-requires : goal.numbered-requires
numbered-requires c = (
  c.bytes_of.ensures.1,
  rw c.bytes_of.ensures.0 (frozen-table c.args.area.now c.args.cards.now c.requires.1 c.args.l.place (omega arith)
      (sym c.is_frozen.ensures ∙ c.if-not-is_frozen.false)),
)

pub returns : goal.returns
returns c =
    let order = lt_fails c.args.l.high.value c.args.l.low.value (sym c.if-lt.false ∙ c.lt.ensures) in
    c.numbered.ensures
    ∙ rw c.bytes_of.ensures.0 (sym (sliced c.args.area.now c.args.cards.now (the_link c.args.l) c.requires.0 order c.if-cards-p.false
    (sym c.is_frozen.ensures ∙ c.if-not-is_frozen.false)))
