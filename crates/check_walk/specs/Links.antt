-- Links that are apart, and marks of the places that they name, as they are walked.
use Rattle.std.specs.Prelude.{ℕ, zero, suc, ◌*◌, ◌≤◌, ◌<◌, ◌≡◌, Bool, true, not, ◌&&◌, ◌||◌, ltb, eqb}
use Rattle.std.specs.Prelude.{List, [], ◌∷◌, map, length, get_or, set}
use Rattle.table.specs.Table.{entries, is_table, place_of}
use Rattle.table.specs.Search.{greatest_key}
use Rattle.ldc.specs.Lists.{all, flat}
use Rattle.ldc.specs.Store.{Link}
use Rattle.book.specs.Rows.{links_on, tabled, Sized}
use Rattle.ldc.specs.Layout.{items_in, level_count, length_in}
use Rattle.check_walk.specs.Lists.{names_places}
use Rattle.check_walk.specs.Spans.{lasts_noted}

-- Does every pair pass the test?
abbrev pub pairs {ℓ} : {A : Type ℓ} → (A → A → Bool) → List A → Bool
pairs test [] = true
pairs test (x ∷ xs) = all (test x) xs && pairs test xs

-- Two links of one level that name one place share no key; so for any link of one table and any of another.
unfoldable pub apart_in : Link → Link → Bool
apart_in g h = not (eqb g.place h.place) || (ltb g.high h.low || ltb h.high g.low)

unfoldable pub cross_apart : List Link → List Link → Bool
cross_apart ls ms = all (λ l. all (apart_in l) ms) ls

-- The links of some tables, one after the other.
unfoldable pub links_over : (cards : List (List ℕ)) → (items : List ℕ) → List Link
links_over cards items = flat (map (links_on cards) items)

-- Marks, one for each place, to which the places of links are added; a link to no place names none.
unfoldable pub links_marked : (marks : List ℕ) → List Link → List ℕ
links_marked marks [] = marks
links_marked marks (l ∷ ls) = links_marked (set marks l.place 1) ls

unfoldable pub unmarked : (marks : List ℕ) → Link → Bool
unmarked marks l = eqb (get_or marks l.place 0) 0

-- Are the links of n levels from one on apart within each level, and do those of two levels name no common place?
unfoldable pub levels_apart : (n from : ℕ) → (cards : List (List ℕ)) → (lists head marks : List ℕ) → Bool
levels_apart zero from cards lists head marks = true
levels_apart (suc n) from cards lists head marks =
    let ls : List Link = links_over cards (items_in (length cards) lists head from) in
    all (unmarked marks) ls && (pairs apart_in ls && levels_apart n (suc from) cards lists head (links_marked marks ls))

-- A place whose table can be read, with its greatest key noted at the place's number.
pub record SpanKnown (area : List ℕ) (cards : List (List ℕ)) (ends : List ℕ) (p : ℕ) : Type 0 where
  pub sized : Sized area cards
  pub room : length cards ≤ length ends
  pub below : p < length cards
  pub table : is_table (place_of area p) ≡ true
  pub last : get_or ends p 0 ≡ greatest_key (entries (place_of area p))

-- A list whose tables can be read: its items name places that hold tables, and the greatest key of each is noted.
pub record Readable (area : List ℕ) (cards : List (List ℕ)) (ends items : List ℕ) : Type 0 where
  pub sized : Sized area cards
  pub room : length cards ≤ length ends
  pub names : names_places (length cards) items ≡ true
  pub tables : tabled area items ≡ true
  pub lasts : lasts_noted area ends items ≡ true

-- The same of the lists of all levels; each fits its part.
pub record Walkable (area : List ℕ) (cards : List (List ℕ)) (lists head ends : List ℕ) : Type 0 where
  pub sized : Sized area cards
  pub long : length lists ≡ level_count * length cards
  pub fits : (n : ℕ) → n < level_count → length_in head n ≤ length cards
  pub reads : (n : ℕ) → n < level_count → Readable area cards ends (items_in (length cards) lists head n)
