-- `in_turn` stays within the bytes. The loop's invariant: the end of all is the end of those left, which begin at `at`.
use Rattle.std.proofs.Common.{◌≡◌, ℕ, ◌≤◌, length, ◌-◌}
use Rattle.std.proofs.Math.Option.{Option}
use Rattle.saved_book.specs.Form.{in_turn}
use Rattle.saved_form.specs.Turns.{Tells}
use Rattle.saved_form.proofs.parts.in_turn.Given as goal

abbrev pub invariant-loop : goal.invariant-loop
invariant-loop g l =
    (l.at ≤ length l.s)
    × ((f : ℕ → Option ℕ) → Tells (goal.F-post g l.field) l.s f → in_turn l.n f l.from ≡ in_turn (l.n - l.counter) f l.at)
