-- The steps in which a new table is built beside the old one.
use Rattle.std.specs.Prelude.{ℕ, ◌≡◌, true, List, [], ◌∷◌, length}
use Rattle.table.specs.Limits.{place_size}
use Rattle.table.specs.Entry.{Entry}
use Rattle.table.specs.Table.{appended, is_memory}
use Rattle.table.specs.Search.{position_in}
use Rattle.table.specs.declared.search.EntryAt.{EntryAt}

-- Entries put behind the last of a place, one after the other.
unfoldable pub appends : List Entry → List ℕ → List ℕ
appends [] s = s
appends (e ∷ es) s = appends es (appended e s)

-- An entry of a memory table by its index, with the position that it stands at.
pub record AtEntry (s : List ℕ) (here : EntryAt) : Type 0 where
  pub place : length s ≡ place_size
  pub good : is_memory s ≡ true
  pub stands : here.at ≡ position_in here.index s
