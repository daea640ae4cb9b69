-- How long a level's list is, and the value that stands at a position.
use Prim.Native.Nat.{ℕ, ◌+◌, ◌*◌, ◌-◌, ◌≤◌, ◌<◌}
use mathlib.Core.Path.{◌≡◌}
use mathlib.Core.List.{List}
use mathlib.Core.Option.{some, none}
use native.Mathlib.Omega.{arith}
use borrow.Author.Tests.{ne_eqb}
use lib.ListN.{length, take, drop}
use lib.Seq.{length-take-le}
use Rattle.coding.proofs.Sets.{length_part}
use Rattle.table.specs.Limits.{entry_head}
use Rattle.table.specs.Entry.{entry_of, entry_at, kind_at, length_at}
use Rattle.ldc.specs.Layout.{level_count, length_in, part_in, items_in}
use Rattle.book.proofs.Parts.{part-fits}

-- A level's list has so many items as the head says.
pub items-long : (places : ℕ) (lists head : List ℕ) (n : ℕ) → n < level_count → length lists ≡ level_count * places → length_in head n ≤ places
    → length (items_in places lists head n) ≡ length_in head n
items-long places lists head n h sized fits =
    let long : length (part_in places lists n) ≡ places = length_part lists (n * places) places (omega (arith, part-fits n level_count places h, sized)) in
    length-take-le (length_in head n) (part_in places lists n) (omega (arith, long, fits))

-- The value of a delete mark, and of another entry.
pub mark-value : (s : List ℕ) (at : ℕ) → kind_at s at ≡ 2 → (entry_at s at).value ≡ none
unfolding entry_at entry_of
mark-value s at h = rw h

pub some-value : (s : List ℕ) (at : ℕ) → (kind_at s at ≡ 2 → ⊥) → (entry_at s at).value ≡ some (take (length_at s at - entry_head) (drop (at + entry_head) s))
unfolding entry_at entry_of
some-value s at h = rw (ne_eqb (kind_at s at) 2 h)
