-- `run` meets its contract, by its ways out: refused early by `admit`, refused for the store by `check`, or served by `serve_all`.
-- In each `m` is the lent memory at the start, `says` is what a call says of the number, and `past` that nothing was refused early.
use Rattle.std.proofs.lemmas.Result.{err_from_is_err_and}
use Prim.Native.Nat.{ℕ}
use mathlib.Core.Path.{refl, sym, ◌∙◌, ap}
use mathlib.Core.List.{List}
use native.Mathlib.Omega.{arith}
use lib.ListN.{length}
use Rattle.ldc.specs.Lent.{store_of}
use Rattle.ldc.specs.Run.{accepted, unsound, serve_all, accepted_run}
use Rattle.book.specs.Pieces.{lent}
use Rattle.read.specs.Shown.{Kept}
use Rattle.serve_list.specs.Ran.{ran, requests_of}
use Rattle.wire.specs.Refusal.{refusal_number}
use Rattle.wire.proofs.Refusals.{refused-number}
use Rattle.ldc.proofs.Lent.Letters.{letter-none}
use Rattle.store_run.proofs.Runs.{passed, early-not-unsound, run-early, run-unsound, run-served, refused-ran, check_sound, check-unsound, check-five}
use Rattle.store_run.proofs.run.Goals as goal

pub returns-in_err-admit : goal.returns-in_err-admit
returns-in_err-admit c =
    let a = c.args in
    let m = lent a.area.now a.cards.now a.lists.now a.head.now a.memory.now in
    let says = c.in_err-admit.ensures.number m refl refl refl in
    let e = c.in_err-admit.field-0.0 in
    let p = err_from_is_err_and c.from_residual.result c.from_residual.ensures.1 in
    rw (p.1, p.2) (
      refused-ran m a.list.now a.answer.now _ (refusal_number e) 0 0 says refl refl (run-early m a.list.now a.answer.now (λ z. refused-number e (says ∙ z))),
      letter-none m (refusal_number e) _ (rw says (early-not-unsound m (length a.answer.now) a.list.now)) c.in_err-admit.ensures.letter,
    )

pub returns-in_err-check : goal.returns-in_err-check
returns-in_err-check c =
    let a = c.args in
    let m = lent a.area.now a.cards.now a.lists.now a.head.now a.memory.now in
    let past = passed m a.list.now a.answer.now (sym (c.in_ok-admit.ensures.number m refl refl refl)) in
    let z = past.sizes in
    let e = c.in_err-check.field-0.0 in
    let says = c.in_err-check.ensures.number_is in
    let refused = refused-number e in
    let five = check-five m z (refusal_number e) says refused in
    let p = err_from_is_err_and c.from_residual-in_err-check.result c.from_residual-in_err-check.ensures.1 in
    rw (p.1, p.2) (
      refused-ran m a.list.now a.answer.now unsound (refusal_number e) 0 0 five refl refl (run-unsound m a.list.now a.answer.now past (check-unsound m z (refusal_number e) says refused)),
      c.in_err-check.ensures.letter-is,
    )

pub serve_all-done-requires : goal.serve_all-done-requires
serve_all-done-requires c =
    let a = c.args in
    let m = lent a.area.now a.cards.now a.lists.now a.head.now a.memory.now in
    let past = passed m a.list.now a.answer.now (sym (c.in_ok-admit.ensures.number m refl refl refl)) in
    let z = past.sizes in
    let kept : Kept m = record { sizes = z; unbroken = check_sound m z accepted c.in_ok-check.ensures.number_is refl } in
    (record { wide = c.told-cards; memory = omega arith; kept = rw c.read.ensures kept }, past.listed)

pub returns : goal.returns
returns c =
    let a = c.args in
    let m = lent a.area.now a.cards.now a.lists.now a.head.now a.memory.now in
    let past = passed m a.list.now a.answer.now (sym (c.in_ok-admit.ensures.number m refl refl refl)) in
    let b = check_sound m past.sizes accepted c.in_ok-check.ensures.number_is refl in (
      ap (λ (x : List ℕ). ran accepted c.serve_all-done.result.served c.serve_all-done.result.written (lent c.serve_all-done.new.area c.serve_all-done.new.cards c.serve_all-done.new.lists x c.serve_all-done.new.memory) c.serve_all-done.new.answer) c.write.ensures
          ∙ c.serve_all-done.ensures
          ∙ ap (λ (x : List ℕ). accepted_run
          (serve_all (length a.answer.now) (store_of (lent a.area.now a.cards.now a.lists.now x a.memory.now)) (requests_of a.list.now))
          a.answer.now) c.read.ensures
          ∙ sym (run-served m a.list.now a.answer.now past b),
      letter-none m accepted 0 refl refl,
    )
