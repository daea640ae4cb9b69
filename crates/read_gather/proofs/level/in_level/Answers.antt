-- `in_level` meets its contract: a law of `Upward` for each turn and each way out.
use Rattle.std.proofs.Common.{◌≡◌, ◌+◌, ◌<◌, add-zero, length, drop, sym, ◌∙◌, leb-true, arith}
use Rattle.coding.specs.Number.{Bytes}
use Rattle.book.specs.Rows.{shown_by}
use Rattle.read_gather.specs.Sources.{ranges}
use Rattle.read_gather.specs.Order.{sources_of}
use Rattle.read_gather.proofs.Going.{Going}
use Rattle.read_gather.proofs.Parts.{part-within, part-at, part-end}
use Rattle.read_gather.proofs.Upward.{level-begins, level-turns, level-stops, level-ends}
use Rattle.read_gather.proofs.level.in_level.Goals as goal
use Rattle.read_gather.proofs.level.in_level.Goals.{After-up_to-top-in-loop-p}

pub loop-p-init : goal.loop-p-init
loop-p-init c =
    let a = c.args in
    let bytes : Bytes a.area.now = λ i. omega (arith, c.type_inv.area i) in
    let first = c.saturating_sub-first in
    record {
      top = c.up_to-top.ensures;
      going = rw (add-zero first.result)
          (level-begins a.area.now a.cards.now bytes c.requires.0 a.items.now c.requires.1.0 a.low.value a.high.value
          a.keys.now a.spots.now a.n first.result c.requires.1.1.1 (omega (arith, first.ensures, c.count_reached.ensures.1.1)));
    }

-- The turn in which a table is taken in, and what is left after it.
turned : (c : After-up_to-top-in-loop-p)
    → let a = c.args in
    let t = c.in_sources-used in
    Going a.area.now (ranges a.low.value a.high.value (sources_of (shown_by a.area.now a.cards.now) a.items.now)) a.keys.now a.spots.now a.n
    t.new.keys t.new.spots t.result
    (ranges a.low.value a.high.value
    (sources_of (shown_by a.area.now a.cards.now) (drop (c.saturating_sub-first.result + c.loop-p.p-index + 1) a.items.now)))
turned c =
    let a = c.args in
    let bytes : Bytes a.area.now = λ i. omega (arith, c.type_inv.area i) in
    let l = c.loop-p in
    let t = c.in_sources-used in
    let first = c.saturating_sub-first.result in
    let this = c.from-p.ensures ∙ part-at a.items.now first _ l.p-index c.loop-p-test.true in
    let some : 0 < length l.keys = omega (arith, l.auto.keys, c.requires.1.1.0) in
    level-turns a.area.now a.cards.now bytes c.requires.0 a.items.now c.requires.1.0 a.low.value a.high.value
    a.keys.now a.spots.now a.n l.keys l.spots l.used (first + l.p-index) (part-within a.items.now first _ l.p-index c.loop-p-test.true).1 some
    t.new.keys t.new.spots t.result l.invariant.going (rw (this, l.invariant.top) at t.ensures) t.auto.keys t.auto.spots

pub returns-then-reaches : goal.returns-then-reaches
returns-then-reaches c =
    let a = c.args in
    let bytes : Bytes a.area.now = λ i. omega (arith, c.type_inv.area i) in
    let l = c.loop-p in
    let t = c.in_sources-used in
    let first = c.saturating_sub-first.result in
    let this = c.from-p.ensures ∙ part-at a.items.now first _ l.p-index c.loop-p-test.true in
    let w = turned (goal.at.returns-then-reaches c).After-up_to-top-in-loop-p in
    let some : 0 < length t.new.keys = omega (arith, w.long, c.requires.1.1.0) in
    level-stops a.area.now a.cards.now bytes c.requires.0 a.items.now c.requires.1.0 a.low.value a.high.value
    a.keys.now a.spots.now a.n t.new.keys t.new.spots t.result (first + l.p-index)
    (part-within a.items.now first _ l.p-index c.loop-p-test.true).1 some
    (rw (sym c.up_to-top-in-loop-p.ensures, sym this) (leb-true _ _ (sym c.reaches.ensures ∙ c.if-reaches.true))) w

pub loop-p-preserved : goal.loop-p-preserved
loop-p-preserved c =
    let first = c.saturating_sub-first.result in
    let i = c.loop-p.p-index in
    let e : first + (i + 1) ≡ first + i + 1 = omega arith in
    record {
      top = c.up_to-top-in-loop-p.ensures;
      going = rw e (turned (goal.at.loop-p-preserved c).After-up_to-top-in-loop-p);
    }

pub returns : goal.returns
returns c =
    let a = c.args in
    let bytes : Bytes a.area.now = λ i. omega (arith, c.type_inv.area i) in
    let l = c.loop-p in
    let first = c.saturating_sub-first.result in
    level-ends a.area.now a.cards.now bytes c.requires.0 a.items.now c.requires.1.0 a.low.value a.high.value
    a.keys.now a.spots.now a.n l.keys l.spots l.used (first + l.p-index)
    (part-end a.items.now first _ l.p-index (omega arith) c.loop-p-test.false) l.invariant.going
