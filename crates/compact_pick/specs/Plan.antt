-- The plan of a store: the table that a tidy turns to, and whether it is merged or goes down. `plan_step` gives the definition's step.
use Rattle.std.specs.Prelude.{ℕ, ◌<◌, ◌≡◌, List, length, get_or}
use Rattle.std.proofs.Math.Option.{Option, some, none}
use Rattle.ldc.specs.Lists.{first, is_empty}
use Rattle.ldc.specs.Store.{Store, links, level, mark}
use Rattle.ldc.specs.Tidy.{Step, idle, Spot, due_table, overfull, round, merge_step, down_step}
use Rattle.compact_pick.specs.Due.{Items, Reads, Linked}
use Rattle.compact_pick.specs.declared.Plan.{Plan}
use Rattle.compact_pick.specs.declared.Plan.TheVariants.{Idle, Down, Merge}

-- Items of a level to choose from: at least one.
pub record Choices (area : List ℕ) (cards : List (List ℕ)) (items : List ℕ) : Type 0 where
  pub carded : Items area cards items
  pub some_item : 0 < length items

-- A store of whose level n these are the items and the mark.
pub record OnLevel (s : Store) (n : ℕ) (area : List ℕ) (cards : List (List ℕ)) (items : List ℕ) (after : Option ℕ) : Type 0 where
  pub reads : Reads s area
  pub linked : Linked s cards
  pub level-items : level s n ≡ items
  pub level-mark : mark s n ≡ after

-- The first table without links goes down. If all have links, the first of the round is merged instead.
abbrev pub choice_plan : Store → (level : ℕ) → Option ℕ → Plan
choice_plan s n (some p) = Down n p
choice_plan s n none = Merge n (get_or (round s n) 0 0)

unfoldable pub level_plan : Store → Option ℕ → Plan
level_plan s none = Idle
level_plan s (some n) = choice_plan s n (first (λ p. is_empty (links s p)) (round s n))

-- A due merge comes first.
abbrev pub due_plan : Store → Option Spot → Plan
due_plan s (some d) = Merge d.on d.place
due_plan s none = level_plan s (overfull s)

unfoldable pub plan_of : Store → Plan
plan_of s = due_plan s (due_table s)

-- The step that a plan comes to: a merge is refused where places are wanting, and a table that goes down is moved or linked.
abbrev pub plan_step : Store → Plan → Step
plan_step s Idle = idle
plan_step s (Down n p) = down_step s n p
plan_step s (Merge n p) = merge_step s n p
