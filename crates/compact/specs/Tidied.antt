-- What a tidy gives, against the definition's step; the plan that it follows; and a table that may be merged or taken down. Which memory
-- table stands beside the other pieces does not matter to a step.
use Rattle.std.specs.Prelude.{ℕ, ◌≡◌, cond, List, [], ◌++◌, eqb}
use Rattle.coding.specs.Number.{bytes_of}
use Rattle.ldc.specs.Store.{Store}
use Rattle.ldc.specs.Lent.{Lent, store_of, lent_of}
use Rattle.ldc.specs.Request.{done_result}
use Rattle.ldc.specs.Tidy.{Step}
use Rattle.ldc.specs.Steps.{step_served}
use Rattle.ldc.specs.Facts.{Merging, Chosen}
use Rattle.book.specs.Pieces.{Beside}
use Rattle.compact_pick.specs.Plan.{plan_of}
use Rattle.compact_pick.specs.declared.Plan.{Plan}
use Rattle.compact_install.specs.Merge.{Backed, Workable}
use Rattle.compact.specs.declared.step.Tidied.{Tidied}

-- Pieces that a step may be done to, with the plan of the store that they show, whatever memory table stands beside them.
pub record Follows (m : Beside) (plan : Plan) : Type 0 where
  pub work : Workable m
  pub planned : (memory : List ℕ) → Backed (m memory) → plan ≡ plan_of (store_of (m memory))

-- Pieces that a step may be done to, with a table that is merged.
pub record Mergeable (m : Beside) (n p : ℕ) : Type 0 where
  pub work : Workable m
  pub merging : Merging (store_of (m work.memory)) n p

-- The same with a table that is chosen to go down.
pub record Choosable (m : Beside) (n p : ℕ) : Type 0 where
  pub work : Workable m
  pub chosen : Chosen (store_of (m work.memory)) n p

-- The body of a reply: step and level, where the result is 0.
abbrev pub step_body : Tidied → List ℕ
step_body t = cond (eqb t.result done_result) (bytes_of 2 t.step ++ bytes_of 2 t.level) []

-- A step was done: its result, the body of its reply, and the lent memory that it leaves.
pub record Does (before : Lent) (step : Step) (after : Lent) (t : Tidied) : Type 0 where
  pub result : t.result ≡ (step_served step (store_of before)).result
  pub body : step_body t ≡ (step_served step (store_of before)).body
  pub left : after ≡ lent_of (step_served step (store_of before)).store

-- It was done with every memory table that the pieces are kept with; the step is the store's.
abbrev pub DoesBeside : (before : Beside) → (step : Store → Step) → (after : Beside) → Tidied → Type 0
DoesBeside before step after t =
    (memory : List ℕ) → Backed (before memory) → Does (before memory) (step (store_of (before memory))) (after memory) t
