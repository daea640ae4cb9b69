-- Entries that a table may hold: keys below 2^64 and strictly rising, values of at most `value_limit` bytes.
use Rattle.std.specs.Prelude.{ℕ, suc, ◌≤◌, ◌^◌, List, [], ◌∷◌, length}
use Rattle.coding.specs.Number.{Bytes}
use Rattle.table.specs.Limits.{value_limit, table_limit}
use Rattle.table.specs.Entry.{Entry, value_bytes}

-- Keys strictly rising, each from `low` on and below `high`.
abbrev pub Keys : (low high : ℕ) → List Entry → Type 0
Keys low high [] = low ≤ high
Keys low high (e ∷ es) = (low ≤ e.key) × Keys (suc e.key) high es

-- Values of at most `value_limit` bytes; a delete mark has none.
abbrev pub Values : List Entry → Type 0
Values [] = Unit {0}
Values (e ∷ es) = ((length (value_bytes e.value) ≤ value_limit) × Bytes (value_bytes e.value)) × Values es

-- What a table, or the memory table, may hold.
pub record Valid (es : List Entry) : Type 0 where
  pub keys : Keys 0 (2 ^ 64) es
  pub values : Values es
  pub few : length es ≤ table_limit
