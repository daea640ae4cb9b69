-- `run` meets its contract: refused early, nothing was carried over; else the rows are the cards' words, on which the store's own `run` works: refused by 5
-- the cards are as they were, and served they are those that the rows show.
use Rattle.std.proofs.lemmas.Result.{err_from_is_err_and}
use Rattle.std.proofs.Common.{ℕ, List, ◌≡◌, refl, sym, subst, ◌∙◌}
use Rattle.ldc.specs.Run.{accepted, run, letter_of}
use Rattle.book.specs.Pieces.{lent}
use Rattle.serve_list.specs.Ran.{ran}
use Rattle.store_cards.specs.Card.{rows_of}
use Rattle.store_cards.proofs.Words.{rows-length}
use Rattle.store_structs.specs.Over.{before_over, early_over}
use Rattle.wire.specs.Refusal.{refusal_number, refusal_letter}
use Rattle.wire.proofs.Refusals.{refused-number}
use Rattle.store_structs.proofs.Ways.{run-refused, run-as-many, run-unsound, run-served}
use Rattle.store_structs.proofs.run.Goals as goal

pub returns-in_err-admit_over : goal.returns-in_err-admit_over
returns-in_err-admit_over c =
    let a = c.args in
    let m = before_over a.area.now a.cards.now a.lists.now a.head.now a.memory.now in
    let e = c.in_err-admit_over.field-0.0 in
    let says = c.in_err-admit_over.ensures in
    let p = err_from_is_err_and c.from_residual.result c.from_residual.ensures.1 in
    rw (p.1, p.2, says.letter)
    (run-refused a.area.now a.rows.now a.cards.now a.lists.now a.head.now a.memory.now a.list.now a.answer.now (refusal_number e) (says.number m a.rows.now refl (rows-length a.cards.now) refl refl)
    (refused-number e))

pub load-requires : goal.load-requires
load-requires c =
    let a = c.args in
    let m = before_over a.area.now a.cards.now a.lists.now a.head.now a.memory.now in
    run-as-many a.area.now a.rows.now a.cards.now a.lists.now a.head.now a.memory.now a.list.now a.answer.now accepted (c.in_ok-admit_over.ensures.number m a.rows.now refl (rows-length a.cards.now) refl refl)
    refl

pub returns-in_err-ran : goal.returns-in_err-ran
returns-in_err-ran c =
    let a = c.args in
    let m = before_over a.area.now a.cards.now a.lists.now a.head.now a.memory.now in
    let e = c.in_err-ran.field-0.0 in
    let z = c.run.new in
    let said = subst (λ (rows : List (List ℕ)). (ran (refusal_number e) 0 0 (lent z.area z.cards z.lists z.head z.memory) z.answer ≡ run (lent a.area.now rows a.lists.now a.head.now a.memory.now) a.list.now a.answer.now)
    × (refusal_letter e ≡ letter_of (lent a.area.now rows a.lists.now a.head.now a.memory.now) (refusal_number e))) c.load.ensures c.in_err-ran.ensures in
    let p = err_from_is_err_and c.from_residual-in_err-ran.result c.from_residual-in_err-ran.ensures.1 in
    rw (p.1, p.2)
    (run-unsound a.area.now a.rows.now a.cards.now a.lists.now a.head.now a.memory.now a.list.now a.answer.now accepted (c.in_ok-admit_over.ensures.number m a.rows.now refl (rows-length a.cards.now) refl refl)
    refl (refusal_number e) 0 0 z.area z.cards z.lists z.head z.memory z.answer (refusal_letter e) said.0 said.1 (refused-number e))

pub unload-requires : goal.unload-requires
unload-requires c =
    let a = c.args in
    let m = before_over a.area.now a.cards.now a.lists.now a.head.now a.memory.now in
    c.run.auto.cards ∙ c.load.auto.rows
    ∙ run-as-many a.area.now a.rows.now a.cards.now a.lists.now a.head.now a.memory.now a.list.now a.answer.now accepted (c.in_ok-admit_over.ensures.number m a.rows.now refl (rows-length a.cards.now) refl refl)
    refl

pub returns : goal.returns
returns c =
    let a = c.args in
    let m = before_over a.area.now a.cards.now a.lists.now a.head.now a.memory.now in
    let r = c.in_ok-ran.ran in
    let z = c.run.new in
    let said = subst (λ (rows : List (List ℕ)). (ran accepted r.served r.written (lent z.area z.cards z.lists z.head z.memory) z.answer ≡ run (lent a.area.now rows a.lists.now a.head.now a.memory.now) a.list.now a.answer.now)
    × (0 ≡ letter_of (lent a.area.now rows a.lists.now a.head.now a.memory.now) accepted)) c.load.ensures c.in_ok-ran.ensures in
    run-served a.area.now a.rows.now a.cards.now a.lists.now a.head.now a.memory.now a.list.now a.answer.now accepted (c.in_ok-admit_over.ensures.number m a.rows.now refl (rows-length a.cards.now) refl refl)
    refl accepted r.served r.written z.area z.cards z.lists z.head z.memory z.answer 0 said.0 said.1 refl c.unload.new.cards c.unload.ensures
