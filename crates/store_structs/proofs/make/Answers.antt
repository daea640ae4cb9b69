-- `make` meets its contract: refused, the rows and the cards are as they were; accepted, the cards are those that the rows show.
use Rattle.std.proofs.lemmas.Result.{err_from_is_err_and}
use Rattle.wire.specs.Refusal.{refusal_number}
use Rattle.wire.proofs.Refusals.{refused-number}
use Rattle.ldc.specs.Run.{accepted}
use Rattle.std.proofs.Common.{refl}
use Rattle.store_structs.proofs.Ways.{make-refused, make-accepted}
use Rattle.store_structs.proofs.make.Goals as goal

pub returns-in_err-make_rows : goal.returns-in_err-make_rows
returns-in_err-make_rows c =
    let a = c.args in
    let z = c.make_rows.new in
    let e = c.in_err-make_rows.field-0.0 in
    let p = err_from_is_err_and c.from_residual.result c.from_residual.ensures.1 in
    rw (p.1, p.2)
    (make-refused a.area.now a.rows.now a.cards.now a.lists.now a.head.now a.memory.now a.threshold (refusal_number e)
    z.area z.rows z.lists z.head z.memory c.in_err-make_rows.ensures (refused-number e))

pub returns : goal.returns
returns c =
    let a = c.args in
    let z = c.make_rows.new in
    make-accepted a.area.now a.rows.now a.cards.now a.lists.now a.head.now a.memory.now a.threshold accepted
    z.area z.rows z.lists z.head z.memory c.in_ok-make_rows.ensures refl c.unload.new.cards c.unload.ensures
