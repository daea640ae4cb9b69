-- Where merges can be due. A run remembers it from step to step, so that most tidies look at the tables of one level.
use Rattle.std.specs.Prelude.{ℕ, suc, ◌<◌, ◌≡◌, cond, not, ◌&&◌, List, ltb, eqb}
use Rattle.std.proofs.Math.Option.{none}
use Rattle.ldc.specs.Lists.{first}
use Rattle.ldc.specs.Store.{Store, level, last_level}
use Rattle.ldc.specs.Layout.{level_count, length_in}
use Rattle.ldc.specs.Tidy.{due}
use Rattle.compact_pick.specs.declared.Plan.{Plan}
use Rattle.compact_pick.specs.declared.Plan.TheVariants.{Idle, Down, Merge}

-- On levels 1 to 3 no merge is due but on this one; 0 is none of them. A greater number than theirs says nothing.
abbrev pub CalmBut : (on : ℕ) → Store → Type 0
CalmBut on s = on < level_count → (n : ℕ) → n < last_level → (on ≡ suc n → ⊥) → first (due s) (level s (suc n)) ≡ none

-- How many items of a level's list are looked at: none where the level is known to have no due one.
unfoldable pub looked_at : (head : List ℕ) → (on level : ℕ) → ℕ
looked_at head on n = cond (ltb on level_count && not (eqb on n)) 0 (length_in head n)

-- The level once a plan was followed, or refused.
unfoldable pub calm_after : (on : ℕ) → Plan → ℕ
calm_after on Idle = 0
calm_after on (Down n p) = cond (ltb n last_level) (suc n) level_count
calm_after on (Merge n p) = cond (ltb on level_count) n level_count
