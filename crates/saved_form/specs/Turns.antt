-- What going over fields one behind the other answers, whatever says where one of them ends.
use Rattle.std.specs.Prelude as code
use Rattle.std.specs.Prelude.{ℕ, ◌≡◌, ◌≤◌, List, length}
use Rattle.std.specs.Borrow.{Bor}
use Rattle.std.proofs.Math.Option.{Option}
use Rattle.book.specs.Place.{the_index}
use Rattle.saved_book.specs.Form.{in_turn}

-- What a call at a position of some bytes may answer.
abbrev pub Answers : Type 1
Answers = Bor (List ℕ) → ℕ → code.Option ℕ → Type 0

-- At each position within these bytes it answers what `f` says.
abbrev pub Tells : Answers → List ℕ → (f : ℕ → Option ℕ) → Type 0
Tells answers bytes f =
    (s : Bor (List ℕ)) (at : ℕ) (r : code.Option ℕ) → s.now ≡ bytes → at ≤ length bytes → answers s at r → the_index r ≡ f at

-- Where so many fields end, by whatever it is that each call answers.
abbrev pub Turns : Answers → List ℕ → (n from : ℕ) → code.Option ℕ → Type 0
Turns answers bytes n from r = (f : ℕ → Option ℕ) → Tells answers bytes f → the_index r ≡ in_turn n f from
