-- `count_reached` meets its contract: where the middle table has a least key above the key, it and all behind it are passed over; where not,
-- all before it are in front.
use Rattle.std.proofs.Common.{◌+◌, ◌-◌, ◌/◌, ◌≤◌, ◌<◌, get_or, arith}
use Rattle.coding.specs.Number.{Bytes}
use Rattle.coding.proofs.KeyLaws.{lt_holds, lt_fails}
use Rattle.ldc.specs.Store.{span_start, span_end}
use Rattle.book.specs.Rows.{shown_by}
use Rattle.read.proofs.Rank.{rank-few, rank_below, rank-start, least-within, spans}
use Rattle.read.proofs.level.count_reached.Goals as goal
use Rattle.read.proofs.level.count_reached.Goals.{After-least}

pub loop-low-init : goal.loop-low-init
loop-low-init c =
    let a = c.args in
    (omega arith, omega arith, omega arith, rank-few (shown_by a.area.now a.cards.now) a.key.value a.items.now)

-- The middle table's least key is in its span.
spanned : (c : After-least)
    → let a = c.args in
    let p = get_or a.items.now (c.loop-low.low + (c.loop-low.high - c.loop-low.low) / 2) 0 in
    (span_start (shown_by a.area.now a.cards.now) p ≤ c.least.result.value) × (c.least.result.value ≤ span_end (shown_by a.area.now a.cards.now) p)
spanned c =
    let a = c.args in
    let l = c.loop-low in
    let bytes : Bytes a.area.now = λ i. omega (arith, c.type_inv.area i) in
    let least = c.least.ensures in
    rw (least, c.from.ensures) (least-within a.area.now a.cards.now a.items.now bytes c.requires.0 c.requires.1
    (l.low + (l.high - l.low) / 2) (omega arith))

pub loop-low-preserved-then-lt : goal.loop-low-preserved-then-lt
loop-low-preserved-then-lt c =
    let a = c.args in
    let l = c.loop-low in
    let w = spanned (goal.at.loop-low-preserved-then-lt c).After-least in
    let lt : a.key.value < c.least.result.value = lt_holds _ _ c.if-lt.ensures in
    let r = rank_below (shown_by a.area.now a.cards.now) a.key.value a.items.now (l.low + (l.high - l.low) / 2) (omega arith)
    (omega (arith, lt, w.1)) in
    (omega arith, omega arith, l.invariant.2, r)

pub loop-low-preserved : goal.loop-low-preserved
loop-low-preserved c =
    let a = c.args in
    let l = c.loop-low in
    let w = spanned (goal.at.loop-low-preserved c).After-least in
    let le : c.least.result.value ≤ a.key.value = lt_fails _ _ c.if-lt.ensures in
    let bytes : Bytes a.area.now = λ i. omega (arith, c.type_inv.area i) in
    let r = rank-start (shown_by a.area.now a.cards.now) 0 a.key.value a.items.now (l.low + (l.high - l.low) / 2)
    (spans a.area.now a.cards.now a.items.now bytes c.requires.0 c.requires.1) (omega arith) (omega (arith, le, w.0)) in
    (omega arith, l.invariant.1, omega (arith, r), l.invariant.3)
