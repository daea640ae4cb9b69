-- Making a store: what it returns and leaves.
use Rattle.std.specs.Prelude.{ℕ, List, map}
use Rattle.table.specs.Table.{zeros}
use Rattle.summary.specs.Summary.{summary_words}
use Rattle.ldc.specs.Store.{free}
use Rattle.ldc.specs.Lent.{Lent}
use Rattle.ldc.specs.Run.{Made}
use Rattle.ldc.specs.Layout.{row_with}

abbrev pub made : (number : ℕ) → Lent → Made
made number m = record { number = number; lent = m }

-- As many rows, each of a free place.
unfoldable pub all_free : List (List ℕ) → List (List ℕ)
all_free rows = map (λ _. row_with free (zeros summary_words)) rows
