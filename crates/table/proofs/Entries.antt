-- The entries that a place shows, by index: how many, the i-th, the first and the last. By induction along `entries_at`.
use Prim.Native.Nat.{ℕ, zero, suc, ◌+◌, ◌-◌, ◌<◌}
use mathlib.Core.Path.{◌≡◌, refl, ◌∙◌, ap}
use mathlib.Core.Bool.{true}
use mathlib.Core.List.{List}
use native.Mathlib.Omega.{arith}
use lib.ListN.{length, get_or}
use Rattle.table.specs.Limits.{table_head}
use Rattle.table.specs.Entry.{Entry, length_at, key_at, entry_at}
use Rattle.table.specs.Table.{count_of, entries, entries_at, is_table}
use Rattle.table.specs.Search.{least_key, greatest_key, position_at, position_in}
use Rattle.table.proofs.Position.{table-good}
use Rattle.table.proofs.Found.{entry_at-key}

pub length-entries_at : (n : ℕ) (s : List ℕ) (at : ℕ) → length (entries_at n s at) ≡ n
unfolding entries_at
length-entries_at zero s at = refl
length-entries_at (suc n) s at = ap suc (length-entries_at n s (at + length_at s at))

nth-entries_at : (i n : ℕ) (s : List ℕ) (at : ℕ) (d : Entry) → i < n → get_or (entries_at n s at) i d ≡ entry_at s (position_at i s at)
unfolding entries_at position_at
nth-entries_at i zero s at d h = absurd (omega arith)
nth-entries_at zero (suc n) s at d h = refl
nth-entries_at (suc i) (suc n) s at d h = nth-entries_at i n s (at + length_at s at) d (omega arith)

last-entries_at : (n : ℕ) (s : List ℕ) (at : ℕ) → greatest_key (entries_at (suc n) s at) ≡ key_at s (position_at n s at)
unfolding entries_at position_at greatest_key
last-entries_at zero s at = entry_at-key s at
last-entries_at (suc n) s at = last-entries_at n s (at + length_at s at)

-- A place shows as many entries as it says.
pub length-entries : (s : List ℕ) → length (entries s) ≡ count_of s
unfolding entries
length-entries s = length-entries_at (count_of s) s table_head

-- The i-th entry is the one at the i-th position.
pub nth-entries : (s : List ℕ) (i : ℕ) (d : Entry) → i < count_of s → get_or (entries s) i d ≡ entry_at s (position_in i s)
unfolding entries position_in
nth-entries s i d h = nth-entries_at i (count_of s) s table_head d h

-- The key of the first entry, and of the last.
pub least_at : (s : List ℕ) → is_table s ≡ true → least_key (entries s) ≡ key_at s table_head
unfolding entries entries_at least_key
least_at s h =
    let g = table-good s h in
    let e : count_of s ≡ suc (count_of s - 1) = omega arith in
    rw e (entry_at-key s table_head)

pub greatest-at : (s : List ℕ) → is_table s ≡ true → greatest_key (entries s) ≡ key_at s (position_in (count_of s - 1) s)
unfolding entries position_in
greatest-at s h =
    let g = table-good s h in
    let e : count_of s ≡ suc (count_of s - 1) = omega arith in
    ap (λ n. greatest_key (entries_at n s table_head)) e ∙ last-entries_at (count_of s - 1) s table_head
