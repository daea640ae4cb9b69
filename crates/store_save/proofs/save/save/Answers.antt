-- `save` meets its contract, by its ways out: refused for what `check` says, refused for a short buffer, or written by `write`.
use Rattle.std.proofs.lemmas.Result.{err_from_is_err_and}
use Rattle.std.proofs.Common.{refl, ◌∙◌, ap, length}
use lib.Seq.{sets}
use Rattle.ldc.specs.Run.{accepted, short_answer}
use Rattle.ldc.proofs.Lent.Letters.{letter-none}
use Rattle.wire.specs.Refusal.{refusal_number}
use Rattle.wire.proofs.Refusals.{refused-number}
use Rattle.book.specs.Pieces.{lent}
use Rattle.saved_write.proofs.Kept.{book-kept, book-saved}
use Rattle.store_save.proofs.Saves.{save-refused, save-kept, save-short, save-written}
use Rattle.store_save.proofs.save.save.Goals as goal

pub returns-in_err-check : goal.returns-in_err-check
returns-in_err-check c =
    let a = c.args in
    let m = lent a.area.now a.cards.now a.lists.now a.head.now a.memory.now in
    let e = c.in_err-check.field-0.0 in
    let p = err_from_is_err_and c.from_residual.result c.from_residual.ensures.1 in
    rw (p.1, p.2)
    (save-refused m (refusal_number e) c.in_err-check.ensures.number_is a.buffer.now (refused-number e), c.in_err-check.ensures.letter-is)

pub length_of-whole-requires : goal.length_of-whole-requires
length_of-whole-requires c =
    let a = c.args in
    let m = lent a.area.now a.cards.now a.lists.now a.head.now a.memory.now in
    let kept = save-kept m accepted c.in_ok-check.ensures.number_is refl in
    (book-kept m kept c.memory_long.ensures).counted

pub returns-then-buffer-whole : goal.returns-then-buffer-whole
returns-then-buffer-whole c =
    let a = c.args in
    let m = lent a.area.now a.cards.now a.lists.now a.head.now a.memory.now in
    let kept = save-kept m accepted c.in_ok-check.ensures.number_is refl in
    let book = book-kept m kept c.memory_long.ensures in
    let counted = c.length_of-whole.ensures m.lists book.sized ∙ ap length (book-saved m kept) in
    (save-short m kept a.buffer.now (rw (← counted) c.if-buffer-whole.true), letter-none m short_answer 0 refl refl)

pub write-requires : goal.write-requires
write-requires c =
    let a = c.args in
    let m = lent a.area.now a.cards.now a.lists.now a.head.now a.memory.now in
    let kept = save-kept m accepted c.in_ok-check.ensures.number_is refl in
    let book = book-kept m kept c.memory_long.ensures in
    let counted = c.length_of-whole.ensures m.lists book.sized ∙ ap length (book-saved m kept) in
    (book, rw (book-saved m kept, ← counted) c.if-buffer-whole.false)

pub returns : goal.returns
returns c =
    let a = c.args in
    let m = lent a.area.now a.cards.now a.lists.now a.head.now a.memory.now in
    let kept = save-kept m accepted c.in_ok-check.ensures.number_is refl in
    let book = book-kept m kept c.memory_long.ensures in
    let counted = c.length_of-whole.ensures m.lists book.sized ∙ ap length (book-saved m kept) in
    let written = c.write.ensures ∙ ap (sets a.buffer.now 0) (book-saved m kept) in
    (save-written m kept a.buffer.now (rw (← counted) c.if-buffer-whole.false) _ counted _ written, letter-none m accepted 0 refl refl)
