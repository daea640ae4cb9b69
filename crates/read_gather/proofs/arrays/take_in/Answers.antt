-- `take_in` meets its contract: a law of `Taken` for each turn and each way out.
use Rattle.std.proofs.Common.{◌∙◌, arith}
use Rattle.coding.proofs.KeyLaws.{lt_holds, lt_fails}
use Rattle.table.proofs.Position.{Stands, stands_at, position-after}
use Rattle.table.proofs.Room.{below-same, length-within, head-within, next_fits}
use Rattle.read_gather.proofs.Taken.{begins, ends, stops, turns}
use Rattle.read_gather.proofs.arrays.take_in.Goals as goal
use Rattle.read_gather.proofs.arrays.take_in.Goals.{In-loop}

pub loop-init : goal.loop-init
loop-init c =
    let a = c.args in
    let e = c.first_from-first.ensures in
    record {
      at = e.1;
      left = begins a.s.now a.base a.low.value a.high.value a.keys.now a.spots.now a.n _ _ _ c.requires.0.1 c.requires.1.1.0 c.requires.1.1.1.0
          c.count-end.ensures e.0 e.1;
    }

-- An entry stands at the loop's position.
here : (c : In-loop) → Stands c.args.s.now c.loop.at
here c = stands_at c.args.s.now c.requires.0.1 c.loop.counter c.loop.at (below-same _ _ _ c.loop-test.true c.count-end.ensures) c.loop.invariant.at

pub key_at-key-requires : goal.key_at-key-requires
key_at-key-requires c = head-within _ _ c.requires.0.0 (here c)

pub returns-then-lt : goal.returns-then-lt
returns-then-lt c =
    let a = c.args in
    let l = c.loop in
    stops a.s.now a.base a.low.value a.high.value a.keys.now a.spots.now a.n l.keys l.spots l.used _ l.counter l.at l.invariant.left
    _ c.loop-test.true c.key_at-key.ensures (lt_holds _ _ c.if-lt.ensures)

pub overflow_add-base : goal.overflow_add-base
overflow_add-base c =
    let h = here (goal.at.overflow_add-base c).In-loop in
    omega (arith, h.room, c.requires.1.0)

pub length_at-requires : goal.length_at-requires
length_at-requires c = length-within _ _ c.requires.0.0 (here (goal.at.length_at-requires c).In-loop)

pub overflow_add-at : goal.overflow_add-at
overflow_add-at c = next_fits _ _ c.requires.0.0 (here (goal.at.overflow_add-at c).In-loop) _ (c.from-at.ensures ∙ c.length_at.ensures)

pub loop-preserved : goal.loop-preserved
loop-preserved c =
    let a = c.args in
    let l = c.loop in
    record {
      at = position-after _ _ _ _ l.invariant.at (c.from-at.ensures ∙ c.length_at.ensures);
      left = turns a.s.now a.base a.low.value a.high.value a.keys.now a.spots.now a.n l.keys l.spots l.used _ l.counter l.at l.invariant.left
          _ _ _ _ _ c.requires.0.0 (here (goal.at.loop-preserved c).In-loop) c.loop-test.true c.key_at-key.ensures (lt_fails _ _ c.if-lt.ensures)
          c.insert-used.ensures c.insert-used.auto.keys c.insert-used.auto.words (c.from-at.ensures ∙ c.length_at.ensures);
    }

pub returns : goal.returns
returns c =
    let a = c.args in
    let l = c.loop in
    ends a.s.now a.base a.low.value a.high.value a.keys.now a.spots.now a.n l.keys l.spots l.used _ l.counter l.at l.invariant.left c.loop-test.false
