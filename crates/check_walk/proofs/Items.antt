-- What items name, one of them: a place, a table, a greatest key that is noted.
use Prim.Native.Nat.{ℕ, ◌<◌}
use mathlib.Core.Path.{◌≡◌}
use mathlib.Core.Bool.{true}
use mathlib.Core.List.{List}
use borrow.Author.Tests.{ltb-true, eqb-true}
use lib.Dec.{ltb, eqb}
use lib.ListN.{length, get_or}
use Rattle.book.specs.Rows.{tabled}
use Rattle.check_walk.specs.Lists.{names_places}
use Rattle.check_walk.specs.Spans.{lasts_noted}
use Rattle.check_walk.specs.Links.{Readable, SpanKnown}
use Rattle.book.proofs.Every.{all_get_d}
use Rattle.table.specs.Table.{entries, is_table, place_of}
use Rattle.table.specs.Search.{greatest_key}

-- What items that name places name at an index.
pub below-item : (P : ℕ) (items : List ℕ) (i : ℕ) → names_places P items ≡ true → i < length items → get_or items i 0 < P
unfolding names_places
below-item P items i h hi = ltb-true _ _ (all_get_d (λ x. ltb x P) items i 0 h hi)

-- What items that hold tables hold at an index.
pub tabled-item : (area items : List ℕ) (i : ℕ) → tabled area items ≡ true → i < length items → is_table (place_of area (get_or items i 0)) ≡ true
unfolding tabled
tabled-item area items i h hi = all_get_d (λ p. is_table (place_of area p)) items i 0 h hi

-- What is noted of items, at an index; and all that is known there.
noted-item : (area ends items : List ℕ) (i : ℕ) → lasts_noted area ends items ≡ true → i < length items
    → get_or ends (get_or items i 0) 0 ≡ greatest_key (entries (place_of area (get_or items i 0)))
unfolding lasts_noted
noted-item area ends items i h hi = eqb-true _ _ (all_get_d (λ p. eqb (get_or ends p 0) (greatest_key (entries (place_of area p)))) items i 0 h hi)

pub known-item : (area : List ℕ) (cards : List (List ℕ)) (ends items : List ℕ) (i : ℕ) → Readable area cards ends items → i < length items
    → SpanKnown area cards ends (get_or items i 0)
known-item area cards ends items i r h = record {
  sized = r.sized;
  room = r.room;
  below = below-item (length cards) items i r.names h;
  table = tabled-item area items i r.tables h;
  last = noted-item area ends items i r.lasts h;
}
