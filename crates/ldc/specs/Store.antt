-- The store (document 01, "Lent memory"): places with their cards, the level lists, threshold, cursor, marks and the memory table.
use Rattle.std.specs.Prelude.{ℕ, zero, suc, min, max, Bool, true, false, ◌&&◌, leb}
use Rattle.std.specs.Prelude.{List, [], ◌∷◌, ◌++◌, map, reverse, length, get_or, set}
use Rattle.std.proofs.Math.Option.{Option, none}
use Rattle.table.specs.Entry.{Entry}
use Rattle.table.specs.Table.{entries}
use Rattle.table.specs.Search.{least_key, greatest_key}
use Rattle.ldc.specs.Lists.{keep}

-- A slice link: a frozen place, a key range, both ends included, and the number of the place's entries in that range.
pub record Link : Type 0 where
  pub place : ℕ
  pub low : ℕ
  pub high : ℕ
  pub number : ℕ

-- What is noted of a place. A live table's card also holds its links, oldest first.
pub data Card : Type 0 where
  free : Card
  live : (links : List Link) → Card
  frozen : Card

-- Of the marks the first is that of level 1, the second that of level 2. Level list 0 is ordered oldest first, lists 1 to 3 by key.
pub record Store : Type 0 where
  pub threshold : ℕ
  pub cursor : ℕ
  pub marks : List (Option ℕ)
  pub levels : List (List ℕ)
  pub cards : List Card
  pub places : List (List ℕ)
  pub memory : List Entry

-- A new store over places with these bytes.
unfoldable pub new_store : (threshold : ℕ) → (places : List (List ℕ)) → Store
new_store t places = record {
  threshold = t;
  cursor = 0;
  marks = none ∷ none ∷ [];
  levels = [] ∷ [] ∷ [] ∷ [] ∷ [];
  cards = map (λ _. free) places;
  places = places;
  memory = [];
}

-- ---- what stands where

-- The last of the levels 0 to 3.
abbrev pub last_level : ℕ
last_level = 3

-- The number of places, P.
unfoldable pub size : Store → ℕ
size s = length s.cards

unfoldable pub card : Store → ℕ → Card
card s p = get_or s.cards p free

abbrev pub links_of : Card → List Link
links_of free = []
links_of (live ls) = ls
links_of frozen = []

unfoldable pub links : Store → ℕ → List Link
links s p = links_of (card s p)

abbrev pub is_free : Card → Bool
is_free free = true
is_free (live ls) = false
is_free frozen = false

abbrev pub is_live : Card → Bool
is_live free = false
is_live (live ls) = true
is_live frozen = false

abbrev pub is_frozen : Card → Bool
is_frozen free = false
is_frozen (live ls) = false
is_frozen frozen = true

-- The bytes of a place, and the entries that it shows.
unfoldable pub bytes_at : Store → ℕ → List ℕ
bytes_at s p = get_or s.places p []

unfoldable pub table : Store → ℕ → List Entry
table s p = entries (bytes_at s p)

unfoldable pub level : Store → ℕ → List ℕ
level s n = get_or s.levels n []

-- Level 0 has no mark.
unfoldable pub mark : Store → ℕ → Option ℕ
mark s zero = none
mark s (suc n) = get_or s.marks n none

-- ---- ranges and spans

-- The entries whose keys lie in a range.
unfoldable pub within : (low high : ℕ) → List Entry → List Entry
within low high es = keep (λ e. leb low e.key && leb e.key high) es

-- The slice of a frozen table that a link holds.
unfoldable pub slice : Store → Link → List Entry
slice s l = within l.low l.high (table s l.place)

-- The least and the greatest of a number and the links' range ends.
abbrev pub least_end : ℕ → List Link → ℕ
least_end k [] = k
least_end k (l ∷ ls) = min (min l.low l.high) (least_end k ls)

abbrev pub greatest_end : ℕ → List Link → ℕ
greatest_end k [] = k
greatest_end k (l ∷ ls) = max (max l.low l.high) (greatest_end k ls)

-- A table's *span* runs from the least to the greatest of its own keys and its links' range ends.
unfoldable pub span_start : Store → ℕ → ℕ
span_start s p = least_end (least_key (table s p)) (links s p)

unfoldable pub span_end : Store → ℕ → ℕ
span_end s p = greatest_end (greatest_key (table s p)) (links s p)

-- Does a table's span hold a key?
unfoldable pub span_holds : Store → (place key : ℕ) → Bool
span_holds s p k = leb (span_start s p) k && leb k (span_end s p)

-- What is to be read of a table, newest first: its slices, then its own entries.
unfoldable pub sources : Store → ℕ → List (List Entry)
sources s p = map (slice s) (reverse (links s p)) ++ (table s p ∷ [])

-- ---- a store with one part changed

abbrev pub with_card : ℕ → Card → Store → Store
with_card p c s = record {
  threshold = s.threshold;
  cursor = s.cursor;
  marks = s.marks;
  levels = s.levels;
  cards = set s.cards p c;
  places = s.places;
  memory = s.memory;
}

abbrev pub with_level : ℕ → List ℕ → Store → Store
with_level n ps s = record {
  threshold = s.threshold;
  cursor = s.cursor;
  marks = s.marks;
  levels = set s.levels n ps;
  cards = s.cards;
  places = s.places;
  memory = s.memory;
}

abbrev pub with_memory : List Entry → Store → Store
with_memory es s = record {
  threshold = s.threshold;
  cursor = s.cursor;
  marks = s.marks;
  levels = s.levels;
  cards = s.cards;
  places = s.places;
  memory = es;
}

abbrev pub with_place : ℕ → List ℕ → Store → Store
with_place p bytes s = record {
  threshold = s.threshold;
  cursor = s.cursor;
  marks = s.marks;
  levels = s.levels;
  cards = s.cards;
  places = set s.places p bytes;
  memory = s.memory;
}

abbrev pub with_cursor : ℕ → Store → Store
with_cursor c s = record {
  threshold = s.threshold;
  cursor = c;
  marks = s.marks;
  levels = s.levels;
  cards = s.cards;
  places = s.places;
  memory = s.memory;
}

abbrev pub with_marks : List (Option ℕ) → Store → Store
with_marks ms s = record {
  threshold = s.threshold;
  cursor = s.cursor;
  marks = ms;
  levels = s.levels;
  cards = s.cards;
  places = s.places;
  memory = s.memory;
}
