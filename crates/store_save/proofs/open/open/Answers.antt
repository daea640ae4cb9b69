-- `open` meets its contract: what `open_beside` says of any cards is said of these; with 0 the working rows are carried to them.
use Rattle.std.proofs.lemmas.Result.{err_from_is_err_and}
use Rattle.std.proofs.Common.{refl, sym, ◌∙◌}
use Rattle.ldc.specs.Run.{accepted}
use Rattle.wire.specs.Refusal.{refusal_number}
use Rattle.wire.proofs.Refusals.{refused-number}
use Rattle.store_save.proofs.Opens.{cards-stay, cards-carried, same-cards, as-many-opened}
use Rattle.store_save.proofs.open.open.Goals as goal

pub returns-in_err-open_beside : goal.returns-in_err-open_beside
returns-in_err-open_beside c =
    let a = c.args in
    let e = c.in_err-open_beside.field-0.0 in
    let o = c.in_err-open_beside.ensures in
    let n = refusal_number e in
    let z = c.open_beside.new in
    let stay = cards-stay n z.working a.cards.now (refused-number e) in
    let p = err_from_is_err_and c.from_residual.result c.from_residual.ensures.1 in
    rw (p.1, p.2)
    (same-cards n a.area.now _ _ z.lists z.head z.memory stay (o.0.opens a.cards.now refl), (o.1, o.0.rows))

pub copy_from_slice-requires : goal.copy_from_slice-requires
copy_from_slice-requires c =
    let opens = c.in_ok-open_beside.ensures.0.opens c.args.cards.now refl in
    sym (c.open_beside.auto.working ∙ as-many-opened accepted _ _ _ _ opens refl)

pub returns : goal.returns
returns c =
    let a = c.args in
    let o = c.in_ok-open_beside.ensures in
    let z = c.open_beside.new in
    let carried = c.copy_from_slice.ensures.after ∙ cards-carried accepted _ a.cards.now refl in
    (same-cards accepted a.area.now _ _ z.lists z.head z.memory carried (o.0.opens a.cards.now refl), (o.1, o.0.rows))
