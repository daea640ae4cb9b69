-- Spans that rise, as they are walked, and the greatest keys that were noted for them.
use Rattle.std.specs.Prelude.{ℕ, List, [], ◌∷◌, Bool, true, ◌&&◌, ltb, eqb, get_or}
use Rattle.table.specs.Table.{entries, place_of}
use Rattle.table.specs.Search.{greatest_key}
use Rattle.ldc.specs.Lists.{all}
use Rattle.ldc.specs.Store.{Store, span_start, span_end}

-- Do the spans of these tables rise, all above `end`?
abbrev pub rises_from : Store → (end : ℕ) → List ℕ → Bool
rises_from s end [] = true
rises_from s end (p ∷ ps) = ltb end (span_start s p) && rises_from s (span_end s p) ps

-- Is the greatest key of the table in each of these places noted, at the place's number?
unfoldable pub lasts_noted : (area ends items : List ℕ) → Bool
lasts_noted area ends items = all (λ p. eqb (get_or ends p 0) (greatest_key (entries (place_of area p)))) items
