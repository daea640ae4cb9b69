-- `run_all` meets its contract: one run more, each buffer behind those before.
use Rattle.std.proofs.Common.{arith}
use Rattle.book.specs.Pieces.{lent}
use Rattle.history_lists.specs.Pieces.{pieces}
use Rattle.history_lists.proofs.Starts.{ready-room, ready-buffer}
use Rattle.history_lists.proofs.Turn.{ran-none, ran-more}
use Rattle.history.proofs.run_all.Goals as goal

pub loop-k-init : goal.loop-k-init
loop-k-init c =
    let a = c.args in
    ran-none (lent a.area.now a.cards.now a.lists.now a.head.now a.memory.now)
    (pieces a.input.now a.ends.now a.answers.now a.stops.now a.served.now) a.from

pub loop-k-preserved : goal.loop-k-preserved
loop-k-preserved c =
    let a = c.args in
    let l = c.loop-k in
    let last = c.run_one.new in
    let here = c.requires.1 l.k c.loop-k-test.true in
    ran-more (lent a.area.now a.cards.now a.lists.now a.head.now a.memory.now) a.input.now a.ends.now a.stops.now a.answers.now a.served.now
    a.from l.k l.auto.k (λ j h. (ready-buffer _ _ _ _ _ _ (c.requires.1 j (omega (arith, h, c.loop-k-test.true)))).rises)
    (lent l.area l.cards l.lists l.head l.memory) l.answers l.served
    (omega (arith, (ready-buffer _ _ _ _ _ _ here).within, l.auto.answers)) (omega (arith, ready-room _ _ _ _ _ _ here, l.auto.served)) l.invariant
    (lent last.area last.cards last.lists last.head last.memory) last.answers last.served c.run_one.ensures
