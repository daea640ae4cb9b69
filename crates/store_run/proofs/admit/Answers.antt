-- `admit` meets its contract, by its ways out: each test has the answer that the definition's test has. The lent memory is any of the
-- lengths given: `p`, `q` and `r` say so.
use mathlib.Core.Path.{◌≡◌, sym, ◌∙◌, ap}
use mathlib.Core.Bool.{Bool, true, cond}
use Rattle.ldc.specs.Run.{accepted, broken_list}
use Rattle.store_run.proofs.Runs.{early-sizes, early-short, early-listed}
use Rattle.store_run.proofs.admit.Goals as goal

pub returns-then-not-sizes-clause-number : goal.returns-then-not-sizes-clause-number
returns-then-not-sizes-clause-number c = λ m p q r. early-sizes m _ _ (sym (c.sizes.ensures m p q r) ∙ c.if-not-sizes.true)

pub returns-then-answer-lt-ROOM-clause-number : goal.returns-then-answer-lt-ROOM-clause-number
returns-then-answer-lt-ROOM-clause-number c = λ m p q r. early-short m _ _ (sym (c.sizes.ensures m p q r) ∙ c.if-not-sizes.false) c.if-answer-lt-ROOM.true

pub returns-then-not-is_list-clause-number : goal.returns-then-not-is_list-clause-number
returns-then-not-is_list-clause-number c = λ m p q r.
    ap (λ (b : Bool). cond b accepted broken_list) (sym (c.if-not-is_list.true) ∙ c.is_list.ensures)
    ∙ early-listed m _ _ (sym (c.sizes.ensures m p q r) ∙ c.if-not-sizes.false) c.if-answer-lt-ROOM.false

pub returns-clause-number : goal.returns-clause-number
returns-clause-number c = λ m p q r.
    ap (λ (b : Bool). cond b accepted broken_list) (sym (c.if-not-is_list.false) ∙ c.is_list.ensures)
    ∙ early-listed m _ _ (sym (c.sizes.ensures m p q r) ∙ c.if-not-sizes.false) c.if-answer-lt-ROOM.false
