-- One turn of the loops: what is left of a definition, after an entry. And what a search of the bytes says of the entries.
use Prim.Native.Nat.{ℕ, suc, ◌+◌, ◌-◌, ◌≤◌, ◌<◌}
use mathlib.Core.Path.{◌≡◌, refl, ◌∙◌, ap}
use mathlib.Core.Bool.{true}
use mathlib.Core.List.{List}
use native.Mathlib.Omega.{arith}
use lib.ListN.{length}
use lib.Seq.{sets, length-sets}
use Rattle.coding.specs.Number.{number_at, bytes_of}
use Rattle.coding.proofs.NumberLaws.{number_at-written, number_at-other}
use Rattle.table.specs.Limits.{entry_head, entry_limit, table_limit, place_size}
use Rattle.table.specs.Entry.{Entry, entry_length, entry_bytes, length_at, entry_at}
use Rattle.table.specs.Table.{count_of, entries, entries_at, is_memory, appended, RoomFor}
use Rattle.table.specs.Search.{find, find_in, shown}
use Rattle.std.specs.Prelude as code
use Rattle.table.proofs.Position.{memory-good}
use Rattle.table.proofs.Found.{shown-find}
use Rattle.ldc.specs.Lists.{is_some}
use Rattle.memtable.specs.Appends.{appends}

-- An entry is there where the search of the bytes has found one.
some-shown : (s : List ℕ) (o : code.Option ℕ) → code.is_some o ≡ is_some (shown s o)
unfolding shown
some-shown s (code.Some at) = refl
some-shown s code.None = refl

pub sought : (s : List ℕ) (k : ℕ) → code.is_some (find_in s k) ≡ is_some (find k (entries s))
sought s k = some-shown s (find_in s k) ∙ ap is_some (shown-find s k)

-- Entries from the i-th up to the n-th are the i-th and those behind it.
pub appends-turn : (n i : ℕ) (s : List ℕ) (at : ℕ) (to : List ℕ) → i < n
    → appends (entries_at (n - i) s at) to ≡ appends (entries_at (n - (i + 1)) s (at + length_at s at)) (appended (entry_at s at) to)
unfolding entries_at appends
appends-turn n i s at to h =
    let e : n - i ≡ suc (n - (i + 1)) = omega arith in
    rw e

-- No entry more.
pub appends-end : (n i : ℕ) (s : List ℕ) (at : ℕ) (to : List ℕ) → n ≤ i → appends (entries_at (n - i) s at) to ≡ to
unfolding entries_at appends
appends-end n i s at to h = let e : n - i ≡ 0 = omega arith in rw e

-- Room is left after an entry that fits.
module _ (n : ℕ) (e : Entry) (s : List ℕ) (r : RoomFor (suc n) s) (low : entry_head ≤ entry_length e) (high : entry_length e ≤ entry_limit) where
  count-appended : count_of (appended e s) ≡ count_of s + 1
  unfolding count_of appended
  count-appended =
      let t : List ℕ = sets (sets s (length_at s 0) (entry_bytes e)) 0 (bytes_of 2 (length_at s 0 + entry_length e)) in
      let l : length t ≡ place_size = simp length-sets r.place in
      number_at-written 2 (number_at 2 s 4 + 1) t 4 (omega (arith, r.few)) (omega arith)

  length-appended : length_at (appended e s) 0 ≡ length_at s 0 + entry_length e
  unfolding appended
  length-appended =
      let t : List ℕ = sets s (length_at s 0) (entry_bytes e) in
      let l : length t ≡ place_size = simp length-sets r.place in
      number_at-other 2 (sets t 0 (bytes_of 2 (length_at s 0 + entry_length e))) 0 (bytes_of 2 (count_of s + 1)) 4 (omega arith)
      ∙ number_at-written 2 (length_at s 0 + entry_length e) t 0 (omega (arith, r.small, r.few)) (omega arith)

  pub room-turn : RoomFor n (appended e s)
  unfolding appended
  room-turn = record {
    place = simp length-sets r.place;
    begun = omega (arith, length-appended, r.begun);
    small = omega (arith, length-appended, count-appended, r.small);
    few = omega (arith, count-appended, r.few);
  }

-- Room for some is room for one.
pub room-one : (n : ℕ) (s : List ℕ) → 0 < n → RoomFor n s → RoomFor 1 s
room-one n s h r = record { place = r.place; begun = r.begun; small = r.small; few = omega (arith, r.few) }

-- A memory table's count is small.
pub small : (s : List ℕ) → is_memory s ≡ true → count_of s ≤ table_limit
small s m = (memory-good s m).few
