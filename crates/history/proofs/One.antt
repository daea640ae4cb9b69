-- One run: its list and its buffer are parts of the whole, and the buffer comes back into its place.
use Prim.Native.Nat.{ℕ, ◌-◌}
use mathlib.Core.Path.{◌≡◌, ◌∙◌, ap}
use mathlib.Core.List.{List, ◌++◌}
use native.Mathlib.Omega.{arith}
use lib.ListN.{length, get_or, take, drop, set}
use lib.Seq.{sets}
use Rattle.coding.proofs.Sets.{sets-back}
use Rattle.ldc.specs.Lent.{Lent}
use Rattle.ldc.specs.Run.{Outcome, run}
use Rattle.serve_list.specs.Ran.{ran}
use Rattle.history_lists.specs.Pieces.{pieces, start_of, piece, call_at}
use Rattle.history_lists.specs.Performs.{outcome_at, RanOne}
use Rattle.history_lists.proofs.Starts.{Ends}

module _ (m : Lent) (input ends answers stops served : List ℕ) (k from first : ℕ) (ef : from ≡ start_of ends k) (es : first ≡ start_of stops k) where
  abbrev list : List ℕ
  list = take (get_or ends k 0 - from) (drop from input)

  abbrev buffer : List ℕ
  buffer = take (get_or stops k 0 - first) (drop first answers)

  same-run : run m list buffer ≡ outcome_at m (pieces input ends answers stops served) k
  unfolding outcome_at call_at piece
  same-run = rw (ef, es)

  pub ran-one : Ends (length answers) stops k → (number x written : ℕ) (m' : Lent) (part : List ℕ) → length part ≡ get_or stops k 0 - first
      → ran number x written m' part ≡ run m list buffer
      → RanOne m (pieces input ends answers stops served) k m'
      (pieces input ends (take first answers ++ (part ++ drop (get_or stops k 0 - first) (drop first answers))) stops (set served k x))
  ran-one good number x written m' part n e =
      let all : ran number x written m' part ≡ outcome_at m (pieces input ends answers stops served) k = e ∙ same-run in
      record {
        left = ap (λ (o : Outcome). o.lent) all;
        answered =
            sets-back answers first (get_or stops k 0 - first) part (omega (arith, good.rises, good.within, es)) n
            ∙ ap (λ (at : ℕ). sets answers at part) es
            ∙ ap (λ (o : Outcome). sets answers (start_of stops k) o.answer) all;
        noted = ap (λ (o : Outcome). set served k o.served) all;
      }
