-- Some sources, given newest first, taken into two arrays that hold entries already.
use Rattle.std.specs.Prelude.{ℕ, ◌≤◌, List, [], ◌∷◌, ◌++◌, map, length, take}
use Rattle.table.specs.Entry.{Entry}
use Rattle.ldc.specs.Store.{within}
use Rattle.book.specs.Pieces.{Words, MutWords}
use Rattle.read_gather.specs.Beside.{Rises}
use Rattle.read_gather.specs.Gathered.{intake, Gathers}

-- The sources taken in from the last on, over entries that are there.
abbrev pub gather_on : (limit : ℕ) → List (List Entry) → List Entry → List Entry
gather_on n [] es = es
gather_on n (xs ∷ rest) es = intake n xs (gather_on n rest es)

-- What a range leaves of each source.
abbrev pub ranges : (low high : ℕ) → List (List Entry) → List (List Entry)
ranges low high sources = map (within low high) sources

-- The sources were taken in: of the arrays n were in use, r are now. The bytes go on behind the area, as with the memory table.
pub record TakenAll (area : List ℕ) (sources : List (List Entry)) (keys spots : List ℕ) (n : ℕ) (keys' spots' : List ℕ) (r : ℕ)
    : Type 0 where
  pub inside : r ≤ length keys
  pub rises : Rises 0 (take r keys')
  pub gathers : (behind : List ℕ) (es : List Entry) → Gathers (area ++ behind) keys spots n es
      → Gathers (area ++ behind) keys' spots' r (gather_on (length keys) sources es)

-- ---- the same over the parameters of a call, the arrays at its entry and at its exit

abbrev pub TakenFrom : (area : Words) → (sources : List (List Entry)) → (keys spots : MutWords) → (n r : ℕ) → Type 0
TakenFrom area sources keys spots n r =
    TakenAll area.entry.now sources keys.entry.now spots.entry.now n keys.exit.now spots.exit.now r
