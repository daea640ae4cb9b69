-- `perform_grown` meets its contract. The number says that the first places lie within what is lent; the first runs and saving, opening, and the
-- other runs are each the definition's, and demand 3 is the theorem over these (`Grows`). The front parts come back into their places.
use Rattle.std.proofs.Common.{arith, ℕ, ◌*◌, ◌≡◌, ◌≤◌, List, ◌++◌, length, take, drop, refl, sym, ap, ◌∙◌}
use lib.Seq.{length-take-le}
use Rattle.std.proofs.lemmas.Result.{err_from_is_err_and}
use Rattle.ldc.specs.Run.{accepted}
use Rattle.wire.specs.Refusal.{number_of, refusal_number}
use Rattle.wire.proofs.Refusals.{refused-number}
use Rattle.table.specs.Limits.{place_size}
use Rattle.ldc.specs.Layout.{level_count}
use Rattle.ldc.specs.Lent.{Lent}
use Rattle.book.specs.Pieces.{lent}
use Rattle.saved_book.specs.Calls.{open_with, working_after}
use Rattle.saved_book.proofs.Done.{save-within}
use Rattle.history_lists.specs.Pieces.{pieces}
use Rattle.history_grown.specs.Grown.{Handed, handed, front_of, with_front}
use Rattle.history_grown.proofs.Granted.{fits-judged}
use Rattle.history_grown.proofs.Fronts.{put_back}
use Rattle.history_grown.proofs.Grows.{grown, refused-grown, performed-grown}
use Rattle.history_grown.proofs.perform_grown.Goals as goal

pub returns-in_err-admit : goal.returns-in_err-admit
returns-in_err-admit c =
    let a = c.args in
    let h : Handed = handed (lent a.area.now a.cards.now a.lists.now a.head.now a.memory.now)
    (pieces a.input.now a.ends.now a.answers.now a.stops.now a.served.now) a.buffer.now a.working.now in
    let e = c.in_err-admit.field-0.0 in
    let p = err_from_is_err_and c.from_residual.result c.from_residual.ensures.1 in
    rw (p.1, p.2)
    (refused-grown h a.threshold a.first a.earlier (refusal_number e) (c.in_err-admit.ensures h refl refl refl refl refl) (refused-number e))

-- ---- the first places

pub overflow_mul-first : goal.overflow_mul-first
overflow_mul-first c =
    let a = c.args in
    let h : Handed = handed (lent a.area.now a.cards.now a.lists.now a.head.now a.memory.now)
    (pieces a.input.now a.ends.now a.answers.now a.stops.now a.served.now) a.buffer.now a.working.now in
    let w = fits-judged h a.threshold a.first accepted (c.in_ok-admit.ensures h refl refl refl refl refl) refl in
    omega (arith, w.1.most)

pub slice_bounds-run_and_save-end : goal.slice_bounds-run_and_save-end
slice_bounds-run_and_save-end c =
    let a = c.args in
    let h : Handed = handed (lent a.area.now a.cards.now a.lists.now a.head.now a.memory.now)
    (pieces a.input.now a.ends.now a.answers.now a.stops.now a.served.now) a.buffer.now a.working.now in
    let w = fits-judged h a.threshold a.first accepted (c.in_ok-admit.ensures h refl refl refl refl refl) refl in
    w.1.area

pub slice_bounds-run_and_save-end-2 : goal.slice_bounds-run_and_save-end-2
slice_bounds-run_and_save-end-2 c =
    let a = c.args in
    let h : Handed = handed (lent a.area.now a.cards.now a.lists.now a.head.now a.memory.now)
    (pieces a.input.now a.ends.now a.answers.now a.stops.now a.served.now) a.buffer.now a.working.now in
    let w = fits-judged h a.threshold a.first accepted (c.in_ok-admit.ensures h refl refl refl refl refl) refl in
    sym (length-take-le _ _ w.1.area)

pub slice_bounds-run_and_save-end-3 : goal.slice_bounds-run_and_save-end-3
slice_bounds-run_and_save-end-3 c =
    let a = c.args in
    let h : Handed = handed (lent a.area.now a.cards.now a.lists.now a.head.now a.memory.now)
    (pieces a.input.now a.ends.now a.answers.now a.stops.now a.served.now) a.buffer.now a.working.now in
    let w = fits-judged h a.threshold a.first accepted (c.in_ok-admit.ensures h refl refl refl refl refl) refl in
    w.0.all

pub slice_bounds-run_and_save-end-4 : goal.slice_bounds-run_and_save-end-4
slice_bounds-run_and_save-end-4 c =
    let a = c.args in
    let h : Handed = handed (lent a.area.now a.cards.now a.lists.now a.head.now a.memory.now)
    (pieces a.input.now a.ends.now a.answers.now a.stops.now a.served.now) a.buffer.now a.working.now in
    let w = fits-judged h a.threshold a.first accepted (c.in_ok-admit.ensures h refl refl refl refl refl) refl in
    sym (length-take-le _ _ w.0.all)

pub overflow_mul-first-2 : goal.overflow_mul-first-2
overflow_mul-first-2 c =
    let a = c.args in
    let h : Handed = handed (lent a.area.now a.cards.now a.lists.now a.head.now a.memory.now)
    (pieces a.input.now a.ends.now a.answers.now a.stops.now a.served.now) a.buffer.now a.working.now in
    let w = fits-judged h a.threshold a.first accepted (c.in_ok-admit.ensures h refl refl refl refl refl) refl in
    omega (arith, w.1.most)

pub slice_bounds-run_and_save-end-5 : goal.slice_bounds-run_and_save-end-5
slice_bounds-run_and_save-end-5 c =
    let a = c.args in
    let h : Handed = handed (lent a.area.now a.cards.now a.lists.now a.head.now a.memory.now)
    (pieces a.input.now a.ends.now a.answers.now a.stops.now a.served.now) a.buffer.now a.working.now in
    let w = fits-judged h a.threshold a.first accepted (c.in_ok-admit.ensures h refl refl refl refl refl) refl in
    w.1.lists

pub slice_bounds-run_and_save-end-6 : goal.slice_bounds-run_and_save-end-6
slice_bounds-run_and_save-end-6 c =
    let a = c.args in
    let h : Handed = handed (lent a.area.now a.cards.now a.lists.now a.head.now a.memory.now)
    (pieces a.input.now a.ends.now a.answers.now a.stops.now a.served.now) a.buffer.now a.working.now in
    let w = fits-judged h a.threshold a.first accepted (c.in_ok-admit.ensures h refl refl refl refl refl) refl in
    sym (length-take-le _ _ w.1.lists)

pub run_and_save-written-requires : goal.run_and_save-written-requires
run_and_save-written-requires c = λ k h. c.runs-n.ensures.all k (omega (arith, h, c.min-mid.ensures))

-- ---- the saved book, opened over all places

pub slice_bounds-open-end : goal.slice_bounds-open-end
slice_bounds-open-end c =
    let s = c.run_and_save-written in
    let front : Lent = lent s.new.area s.new.cards s.new.lists s.new.head s.new.memory in
    omega (arith, s.ensures.written_is, save-within front c.args.buffer.now, s.auto.buffer)

pub slice_bounds-open-end-2 : goal.slice_bounds-open-end-2
slice_bounds-open-end-2 c =
    let s = c.run_and_save-written in
    let front : Lent = lent s.new.area s.new.cards s.new.lists s.new.head s.new.memory in
    sym (length-take-le _ _ (omega (arith, s.ensures.written_is, save-within front c.args.buffer.now, s.auto.buffer)))

pub run_all-requires : goal.run_all-requires
run_all-requires c =
    let s = c.run_and_save-written in
    (omega (arith, c.min-mid.ensures), λ k h. rw (s.auto.answers, s.auto.served) (c.runs-n.ensures.all k h))

pub returns : goal.returns
unfolding front_of
returns c =
    let a = c.args in
    let h : Handed = handed (lent a.area.now a.cards.now a.lists.now a.head.now a.memory.now)
    (pieces a.input.now a.ends.now a.answers.now a.stops.now a.served.now) a.buffer.now a.working.now in
    let w = fits-judged h a.threshold a.first accepted (c.in_ok-admit.ensures h refl refl refl refl refl) refl in
    let m : Lent = h.lent in
    let s = c.run_and_save-written in
    let front : Lent = lent s.new.area s.new.cards s.new.lists s.new.head s.new.memory in
    let held = c.open.new in
    let last = c.run_all.new in
    let area : List ℕ = s.new.area ++ drop (a.first * place_size) a.area.now in
    let bytes : List ℕ = take s.result s.new.buffer in
    let back : lent area (s.new.cards ++ drop a.first a.cards.now) (s.new.lists ++ drop (level_count * a.first) a.lists.now) s.new.head s.new.memory
    ≡ with_front front m = put_back a.first m front w.1 w.0.all s.auto.area s.auto.cards s.auto.lists in
    performed-grown h a.threshold a.first a.earlier accepted c.runs-n.result
    (handed (lent last.area last.cards last.lists last.head last.memory) (pieces a.input.now a.ends.now last.answers a.stops.now last.served)
    s.new.buffer held.working)
    (c.in_ok-admit.ensures h refl refl refl refl refl) refl c.min-mid.result (omega (arith, c.min-mid.ensures))
    (grown m a.input.now a.ends.now a.stops.now a.answers.now a.served.now a.buffer.now a.working.now
    a.threshold a.first c.min-mid.result c.runs-n.result w.0 (λ i. omega (arith, c.type_inv.input i)) c.runs-n.ensures
    (omega (arith, c.min-mid.ensures))
    front s.new.answers s.new.served s.auto.area s.result s.new.buffer s.ensures
    (number_of c.open.result) (lent area held.cards held.lists held.head held.memory) held.working
    (c.open.ensures.0 ∙ ap (λ (x : Lent). open_with a.working.now x bytes) back)
    (c.open.ensures.1.1 ∙ ap (λ (x : Lent). working_after (number_of c.open.result) a.working.now x.area bytes) back)
    (lent last.area last.cards last.lists last.head last.memory) last.answers last.served c.run_all.ensures)
