-- Free places, over the rows of the cards.
use Rattle.std.specs.Prelude as code
use Rattle.std.specs.Prelude.{ℕ, zero, suc, List, [], Bool, cond, length, get_or}
use Rattle.std.proofs.Math.Option.{Option, some, none}
use Rattle.ldc.specs.Lists.{how_many}
use Rattle.ldc.specs.Store.{is_free}
use Rattle.ldc.specs.Place.{next_place}
use Rattle.ldc.specs.Layout.{card_of}

-- What was found, as the definition has it.
abbrev pub the_index : code.Option ℕ → Option ℕ
the_index (code.Some i) = some i
the_index code.None = none

-- Does this row say free?
abbrev pub free_row : List ℕ → Bool
free_row row = is_free (card_of row)

-- The first free one of n places counting up from p, going round.
unfoldable pub free_at : (n : ℕ) → (rows : List (List ℕ)) → (p : ℕ) → code.Option ℕ
free_at zero rows p = code.None
free_at (suc n) rows p = cond (free_row (get_or rows p [])) (code.Some p) (free_at n rows (next_place (length rows) p))

-- How many rows say free.
unfoldable pub free_rows : List (List ℕ) → ℕ
free_rows rows = how_many free_row rows
