-- `save` meets its contract: refused for sizes, nothing was carried over; else the rows are the cards' words, and saving from them says the rest.
use Rattle.std.proofs.Common.{ℕ, List, ◌≡◌, refl, sym, subst, ◌∙◌}
use Rattle.ldc.specs.Run.{letter_of}
use Rattle.book.specs.Pieces.{lent}
use Rattle.saved_book.specs.Calls.{saving, save_book}
use Rattle.std.specs.Result.{result_unwrap_or}
use Rattle.wire.specs.Refusal.{number_of, letter_in}
use Rattle.store_cards.proofs.Words.{rows-length}
use Rattle.store_structs.specs.Over.{before_over}
use Rattle.store_save_structs.proofs.Ways.{save-refused, save-as-many, save-done}
use Rattle.store_save_structs.proofs.save.Goals as goal

pub returns-then-not-fits : goal.returns-then-not-fits
returns-then-not-fits c =
    let a = c.args in
    let m = before_over a.area.now a.cards.now a.lists.now a.head.now a.memory.now in
    save-refused a.rows.now a.cards.now m a.buffer.now (sym (c.fits.ensures m a.rows.now refl (rows-length a.cards.now) refl refl) ∙ c.if-not-fits.true)

pub load-requires : goal.load-requires
load-requires c =
    let a = c.args in
    let m = before_over a.area.now a.cards.now a.lists.now a.head.now a.memory.now in
    save-as-many a.rows.now a.cards.now m a.buffer.now (sym (c.fits.ensures m a.rows.now refl (rows-length a.cards.now) refl refl) ∙ c.if-not-fits.false) ∙ rows-length a.cards.now

pub returns : goal.returns
returns c =
    let a = c.args in
    let r = c.save_rows.result in
    let z = c.save_rows.new in
    let m = before_over a.area.now a.cards.now a.lists.now a.head.now a.memory.now in
    let fit = sym (c.fits.ensures m a.rows.now refl (rows-length a.cards.now) refl refl) ∙ c.if-not-fits.false in
    let said = subst (λ (rows : List (List ℕ)). (saving (number_of r) (result_unwrap_or r 0) z.buffer ≡ save_book (lent a.area.now rows a.lists.now a.head.now a.memory.now) a.buffer.now)
    × (letter_in r ≡ letter_of (lent a.area.now rows a.lists.now a.head.now a.memory.now) (number_of r))) c.load.ensures c.save_rows.ensures.0 in
    save-done a.rows.now a.cards.now m a.buffer.now fit (number_of r) (letter_in r) (result_unwrap_or r 0) z.buffer said.0 said.1 z.rows (c.save_rows.ensures.1 ∙ c.load.ensures)
