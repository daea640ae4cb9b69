-- A chosen table of kept memory, and what taking it down gives: the number of the step, and the memory that it leaves.
use Rattle.std.specs.Prelude.{ℕ, ◌≡◌, List}
use Rattle.ldc.specs.Lent.{Lent, store_of, lent_of}
use Rattle.ldc.specs.Tidy.{Step, idle, refused, moved, linked, merged, down_step}
use Rattle.ldc.specs.Steps.{moved_number, linked_number, merged_number, do_step}
use Rattle.ldc.specs.Facts.{Shape, Chosen}
use Rattle.book.specs.Pieces.{Beside}
use Rattle.read.specs.Shown.{Kept}

-- Kept memory, shaped as the types of the pieces say, in whose store p is chosen on level n.
pub record Ready (m : Lent) (n p : ℕ) : Type 0 where
  pub kept : Kept m
  pub shape : Shape m
  pub chosen : Chosen (store_of m) n p

-- It is so with some memory table.
pub record ReadyBeside (m : Beside) (n p : ℕ) : Type 0 where
  pub memory : List ℕ
  pub ready : Ready (m memory) n p

-- The number that a reply gives a step; 0 for none.
abbrev pub step_number : Step → ℕ
step_number idle = 0
step_number refused = 0
step_number (moved n p) = moved_number
step_number (linked n p slices) = linked_number
step_number (merged n p) = merged_number

-- The definition's step was done, and this is its number.
pub record Steps (before : Lent) (step : Step) (after : Lent) (k : ℕ) : Type 0 where
  pub number : k ≡ step_number step
  pub left : after ≡ lent_of (do_step step (store_of before))

-- A chosen table goes down, with every memory table.
abbrev pub GoesDown : (before : Beside) → (n p : ℕ) → (after : Beside) → (number : ℕ) → Type 0
GoesDown before n p after number =
    (memory : List ℕ) → Ready (before memory) n p → Steps (before memory) (down_step (store_of (before memory)) n p) (after memory) number
