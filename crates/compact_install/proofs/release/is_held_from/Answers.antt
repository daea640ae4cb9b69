-- `is_held_from` meets its contract: this table holds the place, or one behind it does, unless all behind it lie above the place's keys.
use Rattle.std.proofs.Common.{arith, ◌+◌, ◌-◌, ◌<◌, length, drop, length-drop, sym, ◌∙◌}
use lib.ListN.{length-take}
use Rattle.coding.proofs.KeyLaws.{lt_holds}
use Rattle.compact_install.proofs.Seek.{held-step, held-end, held-past}
use Rattle.compact_install.proofs.release.is_held_from.Goals as goal

pub returns-then-q-p : goal.returns-then-q-p
returns-then-q-p c =
    let a = c.args in
    let k = c.loop-q.q-index in
    sym
    (c.loop-q.invariant ∙ held-step a.p a.f a.cards.now a.items.now a.i k _ _ c.loop-q-test.true c.from-q.ensures c.row_names.ensures
    ∙ rw c.if-q-p.true)

pub returns-then-lt : goal.returns-then-lt
returns-then-lt c =
    let a = c.args in
    let k = c.loop-q.q-index in
    let above : c.greatest-last.result.value < c.least.result.value = lt_holds _ _ c.if-lt.ensures in
    sym
    (c.loop-q.invariant ∙ held-step a.p a.f a.cards.now a.items.now a.i k _ _ c.loop-q-test.true c.from-q.ensures c.row_names.ensures
    ∙ rw c.if-q-p.false
    (held-past a.area.now a.cards.now a.items.now a.p a.f c.requires.0 (λ i. omega (arith, c.type_inv.area i)) a.i k _
    c.loop-q-test.true c.from-q.ensures (omega (arith, above, c.least.ensures, c.greatest-last.ensures))))

pub loop-q-preserved : goal.loop-q-preserved
loop-q-preserved c =
    let a = c.args in
    let k = c.loop-q.q-index in
    c.loop-q.invariant ∙ held-step a.p a.f a.cards.now a.items.now a.i k _ _ c.loop-q-test.true c.from-q.ensures c.row_names.ensures
    ∙ rw c.if-q-p.false

pub returns : goal.returns
returns c =
    let a = c.args in
    sym
    (c.loop-q.invariant
    ∙ held-end a.p a.f a.cards.now a.items.now (a.i + c.loop-q.q-index)
    (omega (arith, c.loop-q-test.false, length-take (length a.items.now - a.i) (drop a.i a.items.now), length-drop a.i a.items.now)))
