-- What is asked of a table by its row and its place; and a store as far as area, cards, lists and head say it.
use Rattle.std.specs.Prelude as code
use Rattle.std.specs.Prelude.{ℕ, ◌<◌, ◌≡◌, List, Bool, length}
use Rattle.std.proofs.Math.Option.{Option, some, none}
use Rattle.table.specs.Table.{entries, place_of}
use Rattle.ldc.specs.Lists.{is_empty}
use Rattle.ldc.specs.Store.{Store, links, table, level, mark}
use Rattle.ldc.specs.Lent.{Lent}
use Rattle.ldc.specs.Tidy.{Spot, due_with}
use Rattle.ldc.specs.Layout.{level_count, threshold_in, items_in}
use Rattle.book.specs.Head.{mark_in}
use Rattle.book.specs.Rows.{links_on}
use Rattle.read.specs.Shown.{Legible, Listed}
use Rattle.compact_pick.specs.declared.due.Due.{Due}
use Rattle.compact_pick.specs.declared.due.Wanted.{Wanted}
use Rattle.compact_pick.specs.declared.due.Wanted.TheVariants.{DueBy, Bare}

-- Is the merge of a place's table due, by a threshold or by weight? Has it no links?
unfoldable pub passes_by : (area : List ℕ) → (cards : List (List ℕ)) → Wanted → (p : ℕ) → Bool
passes_by area cards (DueBy t) p = due_with t (links_on cards p) (entries (place_of area p))
passes_by area cards Bare p = is_empty (links_on cards p)

-- Legible cards, and items that name tables.
pub record Items (area : List ℕ) (cards : List (List ℕ)) (items : List ℕ) : Type 0 where
  pub legible : Legible area cards
  pub listed : Listed area items

-- A store whose tables are those of this area.
abbrev pub Reads : Store → (area : List ℕ) → Type 0
Reads s area = (p : ℕ) → table s p ≡ entries (place_of area p)

-- A store whose tables have the links of these rows.
abbrev pub Linked : Store → (cards : List (List ℕ)) → Type 0
Linked s cards = (p : ℕ) → links s p ≡ links_on cards p

-- A store as far as cards, lists and head say it.
pub record Booked (s : Store) (cards : List (List ℕ)) (lists head : List ℕ) : Type 0 where
  pub linked : Linked s cards
  pub levels : (n : ℕ) → n < level_count → level s n ≡ items_in (length cards) lists head n
  pub marks : (n : ℕ) → mark s n ≡ mark_in head n
  pub threshold : s.threshold ≡ threshold_in head

-- A store as far as these pieces say it. The memory table is not asked.
pub record ToldBy (s : Store) (m : Lent) : Type 0 where
  pub reads : Reads s m.area
  pub booked : Booked s m.cards m.lists m.head

-- What was found, as the definition has it.
abbrev pub the_due : code.Option Due → Option Spot
the_due (code.Some d) = some (record { on = d.level; place = d.place })
the_due code.None = none
