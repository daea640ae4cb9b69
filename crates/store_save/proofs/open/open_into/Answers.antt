-- `open_into` meets its contract, by its ways out: wrong sizes, no book, fewer places, or read piece by piece, the summaries
-- worked out, and judged by the check.
use Rattle.std.proofs.Common.{◌≡◌, refl, sym, ◌∙◌, true}
use Rattle.ldc.specs.Lent.{sizes_good}
use Rattle.ldc.proofs.Lent.Shows.{sizes}
use Rattle.book.specs.Pieces.{lent}
use Rattle.store_save.proofs.Opens.{into-sizes, into-unformed, found_none, found-parts, fewer, rows-sized, room, judged}
use Rattle.store_save.proofs.open.open_into.Goals as goal

pub returns-then-not-sizes : goal.returns-then-not-sizes
returns-then-not-sizes c =
    let a = c.args in
    let m = lent a.area.now a.rows.now a.lists.now a.head.now a.memory.now in
    let i = into-sizes m a.bytes.now (sym (c.sizes.ensures m refl refl refl) ∙ c.if-not-sizes.true) in
    (i.number_is, (i.letter-is, i.left_is))

pub returns-in_default : goal.returns-in_default
returns-in_default c =
    let a = c.args in
    let m = lent a.area.now a.rows.now a.lists.now a.head.now a.memory.now in
    let z : sizes_good m ≡ true = sym (c.sizes.ensures m refl refl refl) ∙ c.if-not-sizes.false in
    let i = into-unformed m a.bytes.now z (found_none a.bytes.now c.in_default.ensures) in
    (i.number_is, (i.letter-is, i.left_is))

pub returns-then-places-parts : goal.returns-then-places-parts
returns-then-places-parts c =
    let a = c.args in
    let m = lent a.area.now a.rows.now a.lists.now a.head.now a.memory.now in
    let z : sizes_good m ≡ true = sym (c.sizes.ensures m refl refl refl) ∙ c.if-not-sizes.false in
    let f = found-parts a.bytes.now _ c.in-Some.ensures in
    let i = fewer m a.bytes.now z _ f c.if-places-parts.true in
    (i.number_is, (i.letter-is, i.left_is))

pub read_rows-requires : goal.read_rows-requires
read_rows-requires c =
    let a = c.args in
    let m = lent a.area.now a.rows.now a.lists.now a.head.now a.memory.now in
    let z : sizes_good m ≡ true = sym (c.sizes.ensures m refl refl refl) ∙ c.if-not-sizes.false in
    let f = found-parts a.bytes.now _ c.in-Some.ensures in
    (f.form, room m a.bytes.now z _ f c.if-places-parts.false)

pub sum_rows-requires : goal.sum_rows-requires
sum_rows-requires c =
    let a = c.args in
    let m = lent a.area.now a.rows.now a.lists.now a.head.now a.memory.now in
    let z : sizes_good m ≡ true = sym (c.sizes.ensures m refl refl refl) ∙ c.if-not-sizes.false in
    let f = found-parts a.bytes.now _ c.in-Some.ensures in
    rows-sized m a.bytes.now z _ f c.if-places-parts.false _ c.read_rows.auto.rows

pub read_lists-requires : goal.read_lists-requires
read_lists-requires c =
    let a = c.args in
    let m = lent a.area.now a.rows.now a.lists.now a.head.now a.memory.now in
    let z : sizes_good m ≡ true = sym (c.sizes.ensures m refl refl refl) ∙ c.if-not-sizes.false in
    let f = found-parts a.bytes.now _ c.in-Some.ensures in
    (f.form, (f.lists, ((sizes m z).lists ∙ rw (sizes m z).cards, room m a.bytes.now z _ f c.if-places-parts.false)))

pub read_head-requires : goal.read_head-requires
read_head-requires c = let f = found-parts c.args.bytes.now _ c.in-Some.ensures in (f.form, f.lists)

pub read_memory-requires : goal.read_memory-requires
read_memory-requires c = let f = found-parts c.args.bytes.now _ c.in-Some.ensures in (f.form, f.memory)

pub returns : goal.returns
returns c =
    let a = c.args in
    let m = lent a.area.now a.rows.now a.lists.now a.head.now a.memory.now in
    let z : sizes_good m ≡ true = sym (c.sizes.ensures m refl refl refl) ∙ c.if-not-sizes.false in
    let f = found-parts a.bytes.now _ c.in-Some.ensures in
    let o =
    judged m a.bytes.now z _ f c.if-places-parts.false _ _ _ _ _
    c.read_rows.ensures c.sum_rows.ensures c.read_lists.ensures c.read_head.ensures c.read_memory.ensures
    (c.sum_rows.auto.rows ∙ c.read_rows.auto.rows) c.read_lists.auto.lists _ _ c.check.ensures in
    (o.number_is, (o.letter-is, o.left_is))
