-- Facts of a store that the code's contracts name, besides the rules: rising spans, a table that may be merged or taken down, and the
-- sizes that the types of the lent pieces give. No definition of the store is made of them.
use Rattle.std.specs.Prelude.{ℕ, suc, ◌≤◌, ◌<◌, ◌≡◌, length, get_or}
use mathlib.Core.List.{List, [], ◌∷◌, Memᴰ}
use Rattle.coding.specs.Number.{Bytes}
use Rattle.table.specs.Limits.{place_size}
use Rattle.ldc.specs.Store.{Store, last_level, level, links, span_start, span_end}
use Rattle.ldc.specs.Layout.{row_size, head_size}
use Rattle.ldc.specs.Lent.{Lent}

-- ---- a level

-- Spans that rise from `low` on.
abbrev pub Spans : Store → (low : ℕ) → List ℕ → Type 0
Spans s low [] = Unit {0}
Spans s low (p ∷ ps) = (low ≤ span_start s p) × (span_start s p ≤ span_end s p) × Spans s (suc (span_end s p)) ps

-- ---- the table of a step

-- A table that is merged stands on levels 1 to 3.
pub record Merging (s : Store) (n p : ℕ) : Type 0 where
  pub lowest : 1 ≤ n
  pub highest : n ≤ last_level
  pub on : Memᴰ p (level s n)

-- On level 0 the chosen table is the oldest.
abbrev pub Oldest : Store → (level place : ℕ) → Type 0
Oldest s n p = n ≡ 0 → (qs : List ℕ) × (level s 0 ≡ p ∷ qs)

-- A table chosen from levels 0 to 2 has no links, on level 0 it is the oldest, and no table below has T links.
pub record Chosen (s : Store) (n p : ℕ) : Type 0 where
  pub highest : n ≤ 2
  pub on : Memᴰ p (level s n)
  pub bare : links s p ≡ []
  pub oldest : Oldest s n p
  pub calm : (q : ℕ) → Memᴰ q (level s (suc n)) → length (links s q) < s.threshold

-- ---- lent memory

-- Rows, head and memory table of the sizes that their types have; area and memory table are bytes.
pub record Shape (m : Lent) : Type 0 where
  pub rows : (p : ℕ) → p < length m.cards → length (get_or m.cards p []) ≡ row_size
  pub head : length m.head ≡ head_size
  pub memory : length m.memory ≡ place_size
  pub memory-bytes : Bytes m.memory
  pub area-bytes : Bytes m.area
