-- `open` meets its contract: refused, the cards are as they were; opened, they are those that the rows show.
use Rattle.std.proofs.lemmas.Result.{err_from_is_err_and}
use Rattle.std.proofs.Common.{refl, ◌∙◌}
use Rattle.ldc.specs.Run.{accepted}
use Rattle.wire.specs.Refusal.{refusal_number, refusal_letter}
use Rattle.wire.proofs.Refusals.{refused-number}
use Rattle.store_save_structs.proofs.Ways.{open-refused, open-as-many, open_done}
use Rattle.store_save_structs.proofs.open.Goals as goal

pub returns-in_err-open_beside : goal.returns-in_err-open_beside
returns-in_err-open_beside c =
    let a = c.args in
    let e = c.in_err-open_beside.field-0.0 in
    let z = c.open_beside.new in
    let p = err_from_is_err_and c.from_residual.result c.from_residual.ensures.1 in
    rw (p.1, p.2)
    (open-refused a.area.now a.bytes.now a.rows.now a.cards.now a.lists.now a.head.now a.memory.now (refusal_number e) (refusal_letter e) z.working z.lists z.head z.memory c.in_err-open_beside.ensures
    (refused-number e))

pub unload-requires : goal.unload-requires
unload-requires c =
    let a = c.args in
    let z = c.open_beside.new in
    c.open_beside.auto.working
    ∙ open-as-many a.area.now a.bytes.now a.rows.now a.cards.now a.lists.now a.head.now a.memory.now accepted 0 z.working z.lists z.head z.memory c.in_ok-open_beside.ensures refl

pub returns : goal.returns
returns c =
    let a = c.args in
    let z = c.open_beside.new in
    open_done a.area.now a.bytes.now a.rows.now a.cards.now a.lists.now a.head.now a.memory.now accepted 0 z.working z.lists z.head z.memory c.in_ok-open_beside.ensures refl c.unload.new.cards c.unload.ensures
