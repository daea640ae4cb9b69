-- `count_cards` meets its contract: a row gives one or nought to each count of places, and its links to the third.
use Rattle.std.proofs.Common.{◌≡◌, ℕ, [], get_or, ◌∙◌, ap, arith}
use mathlib.Core.Bool.{Bool, cond}
use Rattle.ldc.specs.Store.{is_free, is_frozen}
use Rattle.ldc.specs.Layout.{card_of}
use Rattle.serve_read.proofs.Turn.{free-turn, frozen-turn, links-turn, tally-end, one-if, one-few}
use Rattle.serve_read.proofs.report.count_cards.Goals as goal

pub loop-row-preserved : goal.loop-row-preserved
loop-row-preserved c =
    let l = c.loop-row in
    let rows = c.args.cards.now in
    let h = c.loop-row-test.true in
    let f = free-turn rows l.row-index h in
    let z = frozen-turn rows l.row-index h in
    let k = links-turn rows l.row-index h in
    let free : c.from-free.result ≡ cond (is_free (card_of (get_or rows l.row-index []))) 1 0 =
    c.from-free.ensures ∙ one-if c.is_free.result ∙ ap (λ (b : Bool). cond {A = ℕ} b 1 0) c.is_free.ensures in
    let frozen : c.from-frozen.result ≡ cond (is_frozen (card_of (get_or rows l.row-index []))) 1 0 =
    c.from-frozen.ensures ∙ one-if c.is_frozen.result ∙ ap (λ (b : Bool). cond {A = ℕ} b 1 0) c.is_frozen.ensures in
    let links = c.link_count.ensures in (
      omega (arith, one-few (is_free (card_of (get_or rows l.row-index [])))),
      omega (arith, one-few (is_frozen (card_of (get_or rows l.row-index [])))),
      omega (arith, c.requires.1 l.row-index h),
      omega arith,
      omega arith,
      omega arith,
    )

pub returns : goal.returns
returns c =
    let l = c.loop-row in
    let e = tally-end c.args.cards.now l.row-index c.loop-row-test.false in
    (omega (arith, e.0), (omega (arith, e.1), omega (arith, e.2)))
