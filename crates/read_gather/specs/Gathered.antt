-- Entries taken in source after source, the older first: at most so many, those with the least keys. And the arrays that hold them.
use Rattle.std.specs.Prelude.{ℕ, ◌+◌, ◌≤◌, ◌%◌, ◌≡◌, true, List, [], ◌∷◌, map, length, take}
use Rattle.table.specs.Limits.{entry_head, entry_limit, place_size}
use Rattle.table.specs.Table.{entries, place_at}
use Rattle.table.specs.Entry.{Entry, length_at, kind_at, entry_at, entry_form}
use Rattle.ldc.specs.Store.{within}
use Rattle.ldc.specs.Memtable.{put}
use Rattle.read_gather.specs.Beside.{Rises}

-- The entries of one source put among others one by one, of which the first `limit` are kept.
abbrev pub intake : (limit : ℕ) → List Entry → List Entry → List Entry
intake n [] es = es
intake n (x ∷ xs) es = intake n xs (take n (put x es))

-- All of some sources, given newest first, taken in from the last on.
abbrev pub gathered : (limit : ℕ) → List (List Entry) → List Entry
gathered n [] = []
gathered n (es ∷ rest) = intake n es (gathered n rest)

abbrev pub key_of : Entry → ℕ
key_of e = e.key

-- An entry stands whole at a position of some bytes, in one place.
pub record SeatedIn (bytes : List ℕ) (at : ℕ) : Type 0 where
  pub form : entry_form (kind_at bytes at) (length_at bytes at) ≡ true
  pub low : entry_head ≤ length_at bytes at
  pub high : length_at bytes at ≤ entry_limit
  pub room : at + length_at bytes at ≤ length bytes
  pub placed : at % place_size + length_at bytes at ≤ place_size

abbrev pub AllSeated : (bytes : List ℕ) → List ℕ → Type 0
AllSeated bytes [] = Unit {0}
AllSeated bytes (i ∷ is) = SeatedIn bytes i × AllSeated bytes is

-- The first n of two arrays hold these entries: the keys, and where in the bytes the entries stand.
pub record Gathers (bytes keys spots : List ℕ) (n : ℕ) (es : List Entry) : Type 0 where
  pub keyed : take n keys ≡ map key_of es
  pub shown : map (entry_at bytes) (take n spots) ≡ es
  pub seated : AllSeated bytes (take n spots)
  pub inside : n ≤ length keys

-- A place of some bytes, by the position of its first.
abbrev pub IsPlace : (bytes : List ℕ) → (base : ℕ) → (s : List ℕ) → Type 0
IsPlace bytes base s = (s ≡ place_at base bytes) × (base % place_size ≡ 0)

-- The range of one table, whose first byte stands at `base`, was taken into two arrays, of which n were in use and r are now.
pub record TakenIn (s : List ℕ) (base low high : ℕ) (keys spots : List ℕ) (n : ℕ) (keys' spots' : List ℕ) (r : ℕ) : Type 0 where
  pub inside : r ≤ length keys
  pub rises : Rises 0 (take r keys')
  pub gathers : (bytes : List ℕ) (es : List Entry) → IsPlace bytes base s → Gathers bytes keys spots n es
      → Gathers bytes keys' spots' r (intake (length keys) (within low high (entries s)) es)
