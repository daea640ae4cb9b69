-- `open_within` meets its contract, by its ways out: wrong sizes, refused as `open_into` refuses over the working pieces, or carried over.
use Rattle.std.proofs.lemmas.Result.{err_from_is_err_and}
use Rattle.std.proofs.Common.{refl, sym, ◌∙◌, ap, List, ℕ, length, take}
use Rattle.ldc.specs.Run.{accepted, wrong_sizes}
use Rattle.ldc.proofs.Lent.Letters.{letter-none}
use Rattle.wire.specs.Refusal.{refusal_number}
use Rattle.wire.proofs.Refusals.{refused-number}
use Rattle.book.specs.Pieces.{lent}
use Rattle.saved_book.specs.Calls.{working_after}
use Rattle.store_save.proofs.Opens.{beside-sizes, beside-refused, beside-opened, working-is, ready, front-back, front_fits, front-back-long}
use Rattle.store_save.proofs.open.open_within.Goals as goal

pub returns-then-not-working-cards : goal.returns-then-not-working-cards
unfolding working_after
returns-then-not-working-cards c =
    let a = c.args in (
      record {
        opens =
            beside-sizes a.area.now a.bytes.now a.working.now a.cards a.lists.now a.head.now a.memory.now _
            c.sizes.ensures c.if-not-working-cards.true;
        rows = refl;
      },
      letter-none _ wrong_sizes 0 refl refl,
    )

pub slice_bounds-open_into-end : goal.slice_bounds-open_into-end
slice_bounds-open_into-end c =
    let a = c.args in
    let m = lent a.area.now a.working.now a.lists.now a.head.now a.memory.now in
    let r = ready m a.cards a.items.now _ c.sizes.ensures c.if-not-working-cards.false c.requires in
    r.fits

pub slice_bounds-open_into-end-2 : goal.slice_bounds-open_into-end-2
slice_bounds-open_into-end-2 c =
    let a = c.args in
    let m = lent a.area.now a.working.now a.lists.now a.head.now a.memory.now in
    let r = ready m a.cards a.items.now _ c.sizes.ensures c.if-not-working-cards.false c.requires in
    sym r.front

pub returns-in_err-open_into : goal.returns-in_err-open_into
returns-in_err-open_into c =
    let a = c.args in
    let m = lent a.area.now a.working.now a.lists.now a.head.now a.memory.now in
    let r = ready m a.cards a.items.now _ c.sizes.ensures c.if-not-working-cards.false c.requires in
    let front = take (length a.lists.now) a.items.now in
    let e = c.in_err-open_into.field-0.0 in
    let o = c.in_err-open_into.ensures in
    let p = err_from_is_err_and c.from_residual.result c.from_residual.ensures.1 in
    rw (p.1, p.2) (
      record {
        opens =
            beside-refused a.area.now a.bytes.now a.working.now a.cards a.lists.now a.head.now a.memory.now r.as_many r.good
            front a.words.now a.table.now r.front (refusal_number e) 0 m o.0 (refused-number e) _;
        rows = working-is _ a.area.now a.bytes.now a.working.now front a.words.now a.table.now _ _ _ _ o.1.1;
      },
      o.1.0,
    )

pub slice_bounds-copy_from_slice-end : goal.slice_bounds-copy_from_slice-end
slice_bounds-copy_from_slice-end c =
    let a = c.args in
    let m = lent a.area.now a.working.now a.lists.now a.head.now a.memory.now in
    let r = ready m a.cards a.items.now _ c.sizes.ensures c.if-not-working-cards.false c.requires in
    front_fits _ c.open_into.new.lists _ (c.open_into.auto.lists ∙ r.front)

pub slice_bounds-copy_from_slice-end-2 : goal.slice_bounds-copy_from_slice-end-2
slice_bounds-copy_from_slice-end-2 c =
    let a = c.args in
    let m = lent a.area.now a.working.now a.lists.now a.head.now a.memory.now in
    let r = ready m a.cards a.items.now _ c.sizes.ensures c.if-not-working-cards.false c.requires in
    sym (front-back-long _ c.open_into.new.lists _ (c.open_into.auto.lists ∙ r.front))

pub copy_from_slice-requires : goal.copy_from_slice-requires
copy_from_slice-requires c =
    let a = c.args in
    let m = lent a.area.now a.working.now a.lists.now a.head.now a.memory.now in
    let r = ready m a.cards a.items.now _ c.sizes.ensures c.if-not-working-cards.false c.requires in
    sym (front-back-long _ c.open_into.new.lists _ (c.open_into.auto.lists ∙ r.front))

pub returns : goal.returns
returns c =
    let a = c.args in
    let m = lent a.area.now a.working.now a.lists.now a.head.now a.memory.now in
    let r = ready m a.cards a.items.now _ c.sizes.ensures c.if-not-working-cards.false c.requires in
    let front = take (length a.lists.now) a.items.now in
    let o = c.in_ok-open_into.ensures in
    let new = c.open_into.new in
    let same = c.copy_from_slice.ensures.after ∙ front-back (length a.lists.now) new.lists _ (c.open_into.auto.lists ∙ r.front) in
    let o' = ap (λ (l : List ℕ). lent a.area.now new.rows l new.head new.memory) same ∙ o.1.1 in (
      record {
        opens =
            beside-opened a.area.now a.bytes.now a.working.now a.cards a.lists.now a.head.now a.memory.now r.as_many r.good
            front a.words.now a.table.now r.front accepted 0 m o.0 refl _ _ _ _ o';
        rows = working-is _ a.area.now a.bytes.now a.working.now front a.words.now a.table.now _ _ _ _ o.1.1;
      },
      o.1.0,
    )
