-- `hang_all` meets its contract: a turn hangs the slice that comes next; where no entry or no table is left, nothing more is hung.
use Rattle.std.proofs.Common.{arith, ◌+◌, drop, refl, sym, ◌∙◌}
use Rattle.table.specs.Table.{entries, place_of}
use Rattle.table.proofs.Found.{seek-stands}
use Rattle.book.specs.Rows.{shown_by}
use Rattle.read.proofs.Shows.{place-memory}
use Rattle.compact_link.proofs.Turns.{seek-spent, rest-items, rest_some, none_left, none-spent, hung-turn}
use Rattle.compact_link.proofs.link.hang_all.Goals as goal

pub loop-first-init : goal.loop-first-init
loop-first-init c = (omega arith, (c.requires.0, refl))

pub returns-in_default : goal.returns-in_default
returns-in_default c =
    let l = c.loop-first in
    let a = c.args in
    let s = place_of a.area.now a.p in
    sym
    (l.invariant.1.1 ∙ none-spent (shown_by a.area.now l.cards) (entries s) a.p l.from.value l.cards (drop l.first a.items.now)
    (seek-spent s l.from.value (sym c.seek.ensures ∙ c.in_default.is)) l.invariant.1.0.spans)

pub key_of-key-requires : goal.key_of-key-requires
key_of-key-requires c =
    let a = c.args in
    let s = place_of a.area.now a.p in
    let st = (seek-stands s (place-memory a.area.now a.p c.requires.1) c.loop-first.from.value _ (sym c.seek.ensures ∙ c.in-Some.is)).0 in
    (c.requires.1.within, omega (arith, st.low, st.room))

pub hang_at-hung-requires : goal.hang_at-hung-requires
hang_at-hung-requires c =
    let l = c.loop-first in
    rw (rest-items c.args.items.now l.first) (l.invariant.1.0, (rest_some c.args.items.now l.first c.loop-first-test.true, c.requires.1))

pub overflow_add-first : goal.overflow_add-first
overflow_add-first c =
    let h = c.hang_at-hung.ensures in
    let t = hung-turn _ _ _ c.args.items.now c.args.p c.loop-first.from.value c.loop-first.first _ _ _ _ (λ i. omega (arith, c.type_inv.area i))
    c.loop-first-test.true c.loop-first.invariant.1.0 c.requires.1 (sym c.seek.ensures ∙ c.in-Some.is) c.key_of-key.ensures h.0 h.1.0 h.1.1 in
    omega (arith, t.near, c.well_formed)

pub overflow_add-first-in-loop-first : goal.overflow_add-first-in-loop-first
overflow_add-first-in-loop-first c =
    let h = c.hang_at-hung.ensures in
    let t = hung-turn _ _ _ c.args.items.now c.args.p c.loop-first.from.value c.loop-first.first _ _ _ _ (λ i. omega (arith, c.type_inv.area i))
    c.loop-first-test.true c.loop-first.invariant.1.0 c.requires.1 (sym c.seek.ensures ∙ c.in-Some.is) c.key_of-key.ensures h.0 h.1.0 h.1.1 in
    omega (arith, t.near, c.well_formed)

pub returns-then-first-items : goal.returns-then-first-items
returns-then-first-items c =
    let h = c.hang_at-hung.ensures in
    let a = c.args in
    let t = hung-turn _ _ _ a.items.now a.p c.loop-first.from.value c.loop-first.first _ _ _ _ (λ i. omega (arith, c.type_inv.area i))
    c.loop-first-test.true c.loop-first.invariant.1.0 c.requires.1 (sym c.seek.ensures ∙ c.in-Some.is) c.key_of-key.ensures h.0 h.1.0 h.1.1 in
    let new = c.hang_at-hung in
    sym
    (c.loop-first.invariant.1.1 ∙ t.left
    ∙ none_left (shown_by a.area.now new.new.cards) (entries (place_of a.area.now a.p)) a.p (new.result.high.value + 1) new.new.cards
    a.items.now (c.loop-first.first + (new.result.at + 1)) (omega (arith, c.if-first-items.true)))

pub overflow_add-from : goal.overflow_add-from
overflow_add-from c =
    let h = c.hang_at-hung.ensures in
    let t = hung-turn _ _ _ c.args.items.now c.args.p c.loop-first.from.value c.loop-first.first _ _ _ _ (λ i. omega (arith, c.type_inv.area i))
    c.loop-first-test.true c.loop-first.invariant.1.0 c.requires.1 (sym c.seek.ensures ∙ c.in-Some.is) c.key_of-key.ensures h.0 h.1.0 h.1.1 in
    omega (arith, t.room c.if-first-items.false)

pub loop-first-preserved : goal.loop-first-preserved
loop-first-preserved c =
    let h = c.hang_at-hung.ensures in
    let t = hung-turn _ _ _ c.args.items.now c.args.p c.loop-first.from.value c.loop-first.first _ _ _ _ (λ i. omega (arith, c.type_inv.area i))
    c.loop-first-test.true c.loop-first.invariant.1.0 c.requires.1 (sym c.seek.ensures ∙ c.in-Some.is) c.key_of-key.ensures h.0 h.1.0 h.1.1 in
    (t.near, (t.below, c.loop-first.invariant.1.1 ∙ t.left))

pub returns : goal.returns
returns c =
    let l = c.loop-first in
    let a = c.args in
    sym
    (l.invariant.1.1
    ∙ none_left (shown_by a.area.now l.cards) (entries (place_of a.area.now a.p)) a.p l.from.value l.cards
    a.items.now l.first (omega (arith, c.loop-first-test.false)))
