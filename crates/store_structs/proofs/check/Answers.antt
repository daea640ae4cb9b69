-- `check` meets its contract: refused for sizes, nothing was carried over; else the rows are the cards' words, and what `check_rows` answers of them is the answer.
use Rattle.std.proofs.Common.{ℕ, List, ◌≡◌, ◌&&◌, length, Bool, refl, sym, subst, ◌∙◌}
use Rattle.ldc.specs.Lent.{sizes_good}
use Rattle.book.specs.Pieces.{lent}
use Rattle.wire.specs.Refusal.{number_of, letter_in}
use Rattle.check_store.specs.Answer.{Answers}
use Rattle.store_cards.specs.Card.{rows_of}
use Rattle.store_cards.proofs.Words.{rows-length}
use Rattle.store_structs.specs.Over.{as_many, before_over}
use Rattle.store_structs.proofs.Ways.{check-refused, check-as-many, check-judged}
use Rattle.store_structs.proofs.check.Goals as goal

pub returns-then-not-fits : goal.returns-then-not-fits
returns-then-not-fits c =
    let a = c.args in
    let m = before_over a.area.now a.cards.now a.lists.now a.head.now a.memory.now in
    check-refused a.rows.now a.cards.now m (sym (c.fits.ensures m a.rows.now refl (rows-length a.cards.now) refl refl) ∙ c.if-not-fits.true)

pub load-requires : goal.load-requires
load-requires c =
    let a = c.args in
    let m = before_over a.area.now a.cards.now a.lists.now a.head.now a.memory.now in
    check-as-many a.rows.now a.cards.now m (sym (c.fits.ensures m a.rows.now refl (rows-length a.cards.now) refl refl) ∙ c.if-not-fits.false) ∙ rows-length a.cards.now

pub returns : goal.returns
returns c =
    let a = c.args in
    let r = c.check_rows in
    let m = before_over a.area.now a.cards.now a.lists.now a.head.now a.memory.now in
    let fit = sym (c.fits.ensures m a.rows.now refl (rows-length a.cards.now) refl refl) ∙ c.if-not-fits.false in
    let answers = subst (λ (rows : List (List ℕ)). Answers (lent a.area.now rows a.lists.now a.head.now a.memory.now) (number_of r.result) (letter_in r.result)) c.load.ensures r.ensures.0 in
    check-judged a.rows.now a.cards.now m fit (number_of r.result) (letter_in r.result) answers r.new.rows (r.ensures.1 ∙ c.load.ensures)
