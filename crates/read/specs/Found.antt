-- Where an entry was found: what stands there, and that it stands whole in its table.
use Rattle.std.specs.Prelude as code
use Rattle.std.specs.Prelude.{ℕ, ◌+◌, ◌*◌, ◌≤◌, ◌≡◌, List, length}
use Rattle.std.proofs.Math.Option.{Option, some, none}
use Rattle.table.specs.Limits.{place_size}
use Rattle.table.specs.Entry.{Entry, entry_at}
use Rattle.table.specs.Table.{place_of, Seated}
use Rattle.book.specs.Pieces.{Words}
use Rattle.read.specs.declared.found.Spot.{Spot}
use Rattle.read.specs.declared.found.Spot.TheVariants.{Memory, Place}

-- ---- among the tables

-- A place, and the position of an entry's first byte in it.
pub record Hit : Type 0 where
  pub place : ℕ
  pub at : ℕ

-- The entry at a position of a place.
abbrev pub hit_entry : (area : List ℕ) → Option Hit → Option Entry
hit_entry area (some h) = some (entry_at (place_of area h.place) h.at)
hit_entry area none = none

abbrev pub SeatedHit : (area : List ℕ) → Option Hit → Type 0
SeatedHit area (some h) = (h.place * place_size + place_size ≤ length area) × Seated (place_of area h.place) h.at
SeatedHit area none = Unit {0}

-- A hit is what was to be found.
pub record Hits (area : List ℕ) (sought : Option Entry) (h : Option Hit) : Type 0 where
  pub shown : hit_entry area h ≡ sought
  pub seated : SeatedHit area h

-- ---- in the whole store

-- The entry at a spot: in the memory table, or in a place.
abbrev pub spot_entry : (area memory : List ℕ) → code.Option Spot → Option Entry
spot_entry area memory (code.Some (Memory at)) = some (entry_at memory at)
spot_entry area memory (code.Some (Place p at)) = some (entry_at (place_of area p) at)
spot_entry area memory code.None = none

abbrev pub SeatedSpot : (area memory : List ℕ) → code.Option Spot → Type 0
SeatedSpot area memory (code.Some (Memory at)) = Seated memory at
SeatedSpot area memory (code.Some (Place p at)) = (p * place_size + place_size ≤ length area) × Seated (place_of area p) at
SeatedSpot area memory code.None = Unit {0}

-- A spot is where what was sought stands.
pub record Spots (area memory : List ℕ) (sought : Option Entry) (s : code.Option Spot) : Type 0 where
  pub shown : spot_entry area memory s ≡ sought
  pub seated : SeatedSpot area memory s

-- ---- the same over the parameters of a call, at its entry

abbrev pub HitsIn : (area : Words) → (sought : Option Entry) → Option Hit → Type 0
HitsIn area sought h = Hits area.entry.now sought h

abbrev pub SpotsIn : (area memory : Words) → (sought : Option Entry) → code.Option Spot → Type 0
SpotsIn area memory sought s = Spots area.entry.now memory.entry.now sought s
