-- How many entries lie in a range, where keys rise: as many as stand from its low end on, before the first key above its high end.
-- By induction along `entries_good`.
use Prim.Native.Nat.{ℕ, zero, suc, ◌+◌, ◌-◌, ◌≤◌, ◌<◌}
use mathlib.Core.Path.{◌≡◌, refl, ap}
use mathlib.Core.Bool.{true, false, and-false}
use mathlib.Core.List.{List}
use native.Mathlib.Omega.{arith}
use native.Mathlib.Nat.{le_refl, sub-zero, suc-sub-suc}
use borrow.Author.Tests.{le-leb, lt-leb, leb-true, leb-false}
use lib.Dec.{leb}
use Rattle.table.specs.Limits.{table_head}
use Rattle.table.specs.Entry.{length_at, key_at, entry_at, entry_of}
use Rattle.table.specs.Table.{count_of, entries, entries_at, entries_good, is_memory}
use Rattle.table.specs.Search.{count_below, count_within, position_at, position_in}
use Rattle.table.proofs.Tests.{cases}
use Rattle.table.proofs.Found.{entry_at-key}
use Rattle.table.proofs.Position.{good-entry, memory-good}

-- Of keys above the range none lies in it.
none_within : (n : ℕ) (s : List ℕ) (at least end low high : ℕ) → entries_good n s at least end ≡ true → high < least
    → count_within low high (entries_at n s at) ≡ 0
unfolding entries_at count_within
none_within zero s at least end low high g h = refl
none_within (suc n) s at least end low high g h =
    let e = good-entry n s at least end g in
    let above : leb (key_at s at) high ≡ false = lt-leb (key_at s at) high (omega (arith, e.rises)) in
    rw (entry_at-key s at, above, and-false (leb low (key_at s at)))
    (none_within n s (at + length_at s at) (suc (key_at s at)) end low high e.rest (omega (arith, e.rises)))

-- Of keys from its low end on, those do that are not above its high end.
up-to-high : (n : ℕ) (s : List ℕ) (at least end low high : ℕ) → entries_good n s at least end ≡ true → low ≤ least
    → count_within low high (entries_at n s at) ≡ count_below (suc high) (entries_at n s at)
unfolding entries_at count_within count_below
up-to-high zero s at least end low high g h = refl
up-to-high (suc n) s at least end low high g h =
    let e = good-entry n s at least end g in
    let from : leb low (key_at s at) ≡ true = le-leb low (key_at s at) (omega (arith, e.rises)) in
    cases (leb (key_at s at) high)
    (λ q. let to : key_at s at ≤ high = leb-true _ _ q in
    rw (entry_at-key s at, from, q, lt-leb (suc high) (key_at s at) (omega arith))
    (ap suc (up-to-high n s (at + length_at s at) (suc (key_at s at)) end low high e.rest (omega (arith, e.rises)))))
    (λ q. let above : high < key_at s at = leb-false _ _ q in
    rw (entry_at-key s at, from, q, le-leb (suc high) (key_at s at) (omega arith))
    (none_within n s (at + length_at s at) (suc (key_at s at)) end low high e.rest (omega arith)))

-- Good entries are good from the first one's key on.
from-own : (n : ℕ) (s : List ℕ) (at least end : ℕ) → entries_good (suc n) s at least end ≡ true
    → entries_good (suc n) s at (key_at s at) end ≡ true
unfolding entries_good
from-own n s at least end g =
    let e = good-entry n s at least end g in
    rw (e.form, le-leb (key_at s at) (key_at s at) (le_refl _), e.rest)

-- Of all keys, those from its low end on.
from_low : (n : ℕ) (s : List ℕ) (at least end low high : ℕ) → entries_good n s at least end ≡ true
    → count_within low high (entries_at n s at)
    ≡ count_below (suc high)
    (entries_at (n - count_below low (entries_at n s at)) s (position_at (count_below low (entries_at n s at)) s at))
unfolding entries_at count_within count_below position_at entry_at entry_of
from_low zero s at least end low high g = refl
from_low (suc n) s at least end low high g =
    let e = good-entry n s at least end g in
    cases (leb low (key_at s at))
    (λ q. let u = up-to-high (suc n) s at (key_at s at) end low high (from-own n s at least end g) (leb-true _ _ q) in
    rw (q, sub-zero) (rw q at u))
    (λ q. rw (q, suc-sub-suc) (from_low n s (at + length_at s at) (suc (key_at s at)) end low high e.rest))

-- The same of a whole table.
pub within-from : (s : List ℕ) (low high : ℕ) → is_memory s ≡ true
    → count_within low high (entries s)
    ≡ count_below (suc high) (entries_at (count_of s - count_below low (entries s)) s (position_in (count_below low (entries s)) s))
unfolding entries position_in
within-from s low high m = from_low (count_of s) s table_head 0 (length_at s 0) low high (memory-good s m).good

-- At most all are below a key.
pub below_few : (k n : ℕ) (s : List ℕ) (at : ℕ) → count_below k (entries_at n s at) ≤ n
unfolding entries_at count_below
below_few k zero s at = omega arith
below_few k (suc n) s at =
    cases (leb k (key_at s at))
    (λ q. rw (entry_at-key s at, q) (omega arith))
    (λ q. rw (entry_at-key s at, q) (omega (arith, below_few k n s (at + length_at s at))))

pub below-few : (k : ℕ) (s : List ℕ) → count_below k (entries s) ≤ count_of s
unfolding entries
below-few k s = below_few k (count_of s) s table_head
