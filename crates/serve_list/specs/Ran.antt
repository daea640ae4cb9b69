-- What a run returns and leaves, from its parts, and the requests of a list.
use Rattle.std.specs.Prelude.{ℕ, List, []}
use Rattle.std.proofs.Math.Option.{get_or}
use Rattle.ldc.specs.Lent.{Lent}
use Rattle.ldc.specs.Request.{Request}
use Rattle.ldc.specs.Run.{Outcome, split}

abbrev pub ran : (number served written : ℕ) → Lent → (answer : List ℕ) → Outcome
ran number served written m answer = record { number = number; served = served; written = written; lent = m; answer = answer }

-- The requests of a list; none, where it is broken.
abbrev pub requests_of : List ℕ → List Request
requests_of list = get_or (split list) []
