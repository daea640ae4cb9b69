-- Where the entries of a good table stand: each within the place, the next behind it, and the last ending at the length in use.
-- By induction on the index along `entries_good`.
use Prim.Native.Nat.{ℕ, zero, suc, ◌+◌, ◌*◌, ◌≤◌, ◌<◌}
use mathlib.Core.Path.{◌≡◌, refl}
use mathlib.Core.Bool.{true}
use mathlib.Core.List.{List}
use native.Mathlib.Omega.{arith}
use native.Mathlib.Numerals.{add-one}
use borrow.Author.Tests.{leb-true, eqb-true, le-leb}
use lib.Dec.{leb, eqb}
use lib.ListN.{drop}
use Rattle.coding.specs.Number.{number_at}
use Rattle.table.specs.Limits.{entry_head, entry_limit, table_head, table_limit, place_size}
use Rattle.table.specs.Entry.{length_at, kind_at, key_at, entry_form}
use Rattle.table.specs.Table.{count_of, entries_good, all_zero, table_good, is_table, is_memory}
use Rattle.table.specs.Search.{position_at, position_in}
use Rattle.table.proofs.Tests.{and_parts}
use Rattle.table.proofs.Form.{formed}

-- The parts of `table_good`.
pub record Good (fewest : ℕ) (s : List ℕ) : Type 0 where
  pub kind : kind_at s 0 ≡ 32
  pub enough : fewest ≤ count_of s
  pub few : count_of s ≤ table_limit
  pub zero : number_at 2 s 6 ≡ 0
  pub good : entries_good (count_of s) s table_head 0 (length_at s 0) ≡ true
  pub rest : all_zero (drop (length_at s 0) s) ≡ true

pub good-parts : (fewest : ℕ) (s : List ℕ) → table_good fewest s ≡ true → Good fewest s
unfolding table_good
good-parts fewest s h =
    let a = and_parts (eqb (kind_at s 0) 32) _ h in
    let b = and_parts (leb fewest (count_of s)) _ a.1 in
    let c = and_parts (leb (count_of s) table_limit) _ b.1 in
    let d = and_parts (eqb (number_at 2 s 6) 0) _ c.1 in
    let e = and_parts (entries_good (count_of s) s table_head 0 (length_at s 0)) (all_zero (drop (length_at s 0) s)) d.1 in
    record {
      kind = eqb-true _ _ a.0;
      enough = leb-true _ _ b.0;
      few = leb-true _ _ c.0;
      zero = eqb-true _ _ d.0;
      good = e.0;
      rest = e.1;
    }

-- The parts of `entries_good` at an entry.
pub record GoodEntry (n : ℕ) (s : List ℕ) (at least end : ℕ) : Type 0 where
  pub form : entry_form (kind_at s at) (length_at s at) ≡ true
  pub low : entry_head ≤ length_at s at
  pub high : length_at s at ≤ entry_limit
  pub rises : least ≤ key_at s at
  pub rest : entries_good n s (at + length_at s at) (suc (key_at s at)) end ≡ true

pub good-entry : (n : ℕ) (s : List ℕ) (at least end : ℕ) → entries_good (suc n) s at least end ≡ true → GoodEntry n s at least end
unfolding entries_good
good-entry n s at least end h =
    let a = and_parts (entry_form (kind_at s at) (length_at s at)) _ h in
    let b = and_parts (leb least (key_at s at)) _ a.1 in
    let f = formed (kind_at s at) (length_at s at) a.0 in
    record { form = a.0; low = f.low; high = f.high; rises = leb-true _ _ b.0; rest = b.1 }

-- The bounds of where n good entries end.
pub good-end : (n : ℕ) (s : List ℕ) (at least end : ℕ) → entries_good n s at least end ≡ true
    → (at + entry_head * n ≤ end) × (end ≤ at + entry_limit * n)
unfolding entries_good
good-end zero s at least end h = let e : at ≡ end = eqb-true at end h in omega arith
good-end (suc n) s at least end h =
    let g = good-entry n s at least end h in
    let r = good-end n s (at + length_at s at) (suc (key_at s at)) end g.rest in
    omega arith

-- What holds of a position where an entry of a table stands.
pub record Stands (s : List ℕ) (at : ℕ) : Type 0 where
  pub begins : table_head ≤ at
  pub form : entry_form (kind_at s at) (length_at s at) ≡ true
  pub low : entry_head ≤ length_at s at
  pub high : length_at s at ≤ entry_limit
  pub ends : at + length_at s at ≤ length_at s 0
  pub room : at + length_at s at ≤ place_size

-- The i-th of n good entries is of the right form, and lies before the end.
good-at : (i n : ℕ) (s : List ℕ) (at least end : ℕ) → entries_good n s at least end ≡ true → i < n
    → (at + entry_head * i ≤ position_at i s at)
    × (position_at i s at ≤ at + entry_limit * i)
    × (entry_form (kind_at s (position_at i s at)) (length_at s (position_at i s at)) ≡ true)
    × (position_at i s at + length_at s (position_at i s at) ≤ end)
unfolding position_at
good-at i zero s at least end h hi = absurd (omega arith)
good-at zero (suc n) s at least end h hi =
    let g = good-entry n s at least end h in
    let r = good-end n s (at + length_at s at) (suc (key_at s at)) end g.rest in
    (omega arith, omega arith, g.form, omega arith)
good-at (suc i) (suc n) s at least end h hi =
    let g = good-entry n s at least end h in
    let r = good-at i n s (at + length_at s at) (suc (key_at s at)) end g.rest (omega arith) in
    (omega arith, omega arith, r.2, r.3)

-- The next entry stands behind this one.
position-next : (i : ℕ) (s : List ℕ) (at : ℕ) → position_at (suc i) s at ≡ position_at i s at + length_at s (position_at i s at)
unfolding position_at
position-next zero s at = refl
position-next (suc i) s at = position-next i s (at + length_at s at)

-- Positions go up from the head on, by the entries' lengths.
pub position_first : (s : List ℕ) → position_in 0 s ≡ table_head
unfolding position_in position_at
position_first s = refl

pub position-step : (s : List ℕ) (i : ℕ) → position_in (i + 1) s ≡ position_in i s + length_at s (position_in i s)
unfolding position_in
position-step s i = rw add-one (position-next i s table_head)

-- The same of a position in hand: behind the entry at the i-th stands the next.
pub position-after : (s : List ℕ) (i at len : ℕ) → at ≡ position_in i s → len ≡ length_at s at → at + len ≡ position_in (i + 1) s
position-after s i at len e h = cc (position-step s i)

module _ (s : List ℕ) (m : is_memory s ≡ true) where
  -- A memory table's parts.
  pub memory-good : Good 0 s
  unfolding is_memory
  memory-good = good-parts 0 s m

  -- The length in use lies behind the head and within the place.
  pub length-bounds : (table_head ≤ length_at s 0) × (length_at s 0 ≤ table_head + entry_limit * table_limit)
  length-bounds =
      let g = memory-good in
      let e = good-end (count_of s) s table_head 0 (length_at s 0) g.good in
      omega arith

  -- Every entry's position.
  pub stands : (i : ℕ) → i < count_of s → Stands s (position_in i s)
  unfolding position_in
  stands i h =
      let g = memory-good in
      let a = good-at i (count_of s) s table_head 0 (length_at s 0) g.good h in
      let f = formed _ _ a.2 in
      let b = length-bounds in
      record { begins = omega arith; form = a.2; low = f.low; high = f.high; ends = a.3; room = omega arith }

  pub stands_at : (i at : ℕ) → i < count_of s → at ≡ position_in i s → Stands s at
  stands_at i at h e = rw e (stands i h)

-- A place's table has the parts of a memory table, and an entry.
pub table-good : (s : List ℕ) → is_table s ≡ true → Good 1 s
unfolding is_table
table-good s h = good-parts 1 s h

-- A place's table is a memory table.
pub table-memory : (s : List ℕ) → is_table s ≡ true → is_memory s ≡ true
unfolding is_table is_memory table_good
table-memory s h =
    let a = and_parts (eqb (kind_at s 0) 32) _ h in
    let b = and_parts (leb 1 (count_of s)) _ a.1 in
    rw (a.0, le-leb 0 (count_of s) (omega arith), b.1)
