-- `perform` meets its contract: making a store and the runs on it are the definition's, and demand 3 is the theorem over these.
use Rattle.std.proofs.lemmas.Result.{err_from_is_err_and}
use Rattle.std.proofs.Common.{arith, refl}
use Rattle.ldc.specs.Run.{accepted}
use Rattle.wire.specs.Refusal.{refusal_number}
use Rattle.wire.proofs.Refusals.{refused-number}
use Rattle.book.specs.Pieces.{lent}
use Rattle.history_lists.specs.Pieces.{pieces}
use Rattle.history_lists.proofs.Joined.{performed, refused}
use Rattle.history.proofs.perform.Goals as goal

pub returns-in_err-make : goal.returns-in_err-make
returns-in_err-make c =
    let a = c.args in
    let last = c.make.new in
    let e = c.in_err-make.field-0.0 in
    let p = err_from_is_err_and c.from_residual.result c.from_residual.ensures.1 in
    rw (p.1, p.2)
    (refused (lent a.area.now a.cards.now a.lists.now a.head.now a.memory.now) a.threshold
    (pieces a.input.now a.ends.now a.answers.now a.stops.now a.served.now) (refusal_number e)
    (lent last.area last.cards last.lists last.head last.memory) c.in_err-make.ensures (refused-number e))

pub returns : goal.returns
returns c =
    let a = c.args in
    let made = c.make.new in
    let last = c.run_all.new in
    performed (lent a.area.now a.cards.now a.lists.now a.head.now a.memory.now) a.threshold
    (pieces a.input.now a.ends.now a.answers.now a.stops.now a.served.now) c.runs-n.result
    (lent last.area last.cards last.lists last.head last.memory)
    (pieces a.input.now a.ends.now last.answers a.stops.now last.served) accepted
    (lent made.area made.cards made.lists made.head made.memory) c.in_ok-make.ensures
    refl (λ i. omega (arith, c.type_inv.input i)) c.runs-n.ensures c.run_all.ensures
