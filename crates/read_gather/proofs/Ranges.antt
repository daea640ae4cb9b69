-- What is left of a table's range, entry by entry: the first key of the range, one more, the end.
use Prim.Native.Nat.{ℕ, zero, suc, ◌+◌, ◌-◌, ◌≤◌, ◌<◌}
use mathlib.Core.Path.{◌≡◌, refl}
use mathlib.Core.Bool.{true}
use mathlib.Core.List.{List, [], ◌∷◌, map}
use native.Mathlib.Omega.{arith}
use native.Mathlib.Nat.{sub-zero}
use borrow.Author.Tests.{leb-true, le-leb, lt-leb}
use lib.Dec.{leb}
use Rattle.table.specs.Limits.{table_head}
use Rattle.table.specs.Entry.{Entry, length_at, key_at, entry_at}
use Rattle.table.specs.Table.{count_of, entries, entries_at, entries_good, is_memory}
use Rattle.table.specs.Search.{count_below, position_at, position_in}
use Rattle.table.proofs.Position.{good-entry, memory-good}
use Rattle.table.proofs.Found.{entry_at-key}
use Rattle.ldc.specs.Store.{within}
use Rattle.ldc.proofs.Basics.Cases.{cases}
use Rattle.read_gather.specs.Beside.{Rises}
use Rattle.read_gather.specs.Gathered.{key_of}
use Rattle.read_gather.proofs.Means.{rises-lower}

-- Keys rise in a table.
good-rises : (n : ℕ) (s : List ℕ) (at least end : ℕ) → entries_good n s at least end ≡ true → Rises least (map key_of (entries_at n s at))
unfolding entries_at
good-rises zero s at least end h = tt
good-rises (suc n) s at least end h =
    let g = good-entry n s at least end h in
    let e = entry_at-key s at in
    (omega (arith, g.rises), rw e (good-rises n s (at + length_at s at) (suc (key_at s at)) end g.rest))

-- Behind a range nothing is in it.
pub over : (low high : ℕ) (es : List Entry) → Rises (suc high) (map key_of es) → within low high es ≡ []
unfolding within
over low high [] h = refl
over low high (e ∷ es) h =
    cases (leb low e.key)
    (λ q. rw (q, lt-leb e.key high h.0) (over low high es (rises-lower (suc e.key) (suc high) (map key_of es) (let f = h.0 in omega arith) h.1)))
    (λ q. rw q (over low high es (rises-lower (suc e.key) (suc high) (map key_of es) (let f = h.0 in omega arith) h.1)))

-- From the first key of the range on.
record From (n : ℕ) (s : List ℕ) (at low high b : ℕ) : Type 0 where
  rises : Rises low (map key_of (entries_at (n - b) s (position_at b s at)))
  same : within low high (entries_at n s at) ≡ within low high (entries_at (n - b) s (position_at b s at))

from : (n : ℕ) (s : List ℕ) (at least low high : ℕ) → Rises least (map key_of (entries_at n s at))
    → From n s at low high (count_below low (entries_at n s at))
unfolding entries_at count_below position_at within
from zero s at least low high h = record { rises = tt; same = refl }
from (suc n) s at least low high h =
    let e = entry_at-key s at in
    cases (leb low (entry_at s at).key)
    (λ q. rw q (record { rises = rw (sub-zero (suc n)) (leb-true low (entry_at s at).key q, h.1); same = rw (sub-zero (suc n)) }))
    (λ q. let r = from n s (at + length_at s at) (suc (entry_at s at).key) low high h.1 in
    let b : ℕ = count_below low (entries_at n s (at + length_at s at)) in
    let m : suc n - suc b ≡ n - b = omega arith in
    rw q (record { rises = rw m r.rises; same = rw (q, m) r.same }))

module _ (s : List ℕ) (m : is_memory s ≡ true) (low high : ℕ) where
  first : From (count_of s) s table_head low high (count_below low (entries s))
  unfolding entries
  first = from (count_of s) s table_head 0 low high (good-rises (count_of s) s table_head 0 _ (memory-good s m).good)

  module _ (n i at : ℕ) (c : n ≡ count_of s) (hi : i ≡ count_below low (entries s)) (ha : at ≡ position_in i s) where
    pub first-rises : Rises low (map key_of (entries_at (n - i) s at))
    unfolding position_in
    first-rises = rw (ha, hi, c) first.rises

    pub first-same : within low high (entries s) ≡ within low high (entries_at (n - i) s at)
    unfolding position_in entries
    first-same = rw (ha, hi, c) first.same

-- One more, or no more.
module _ (s : List ℕ) (low high n i at : ℕ) (up : Rises low (map key_of (entries_at (n - i) s at))) where
  module _ (h : i < n) where
    split : entries_at (n - i) s at ≡ entry_at s at ∷ entries_at (n - (i + 1)) s (at + length_at s at)
    unfolding entries_at
    split = let e : n - i ≡ suc (n - (i + 1)) = omega arith in rw e

    up' : Rises low (map key_of (entry_at s at ∷ entries_at (n - (i + 1)) s (at + length_at s at)))
    up' = rw split at up

    pub turn-rises : Rises low (map key_of (entries_at (n - (i + 1)) s (at + length_at s at)))
    turn-rises =
        rises-lower (suc (entry_at s at).key) low (map key_of (entries_at (n - (i + 1)) s (at + length_at s at))) (let f = up'.0 in omega arith) up'.1

    pub turn_one : key_at s at ≤ high
        → within low high (entries_at (n - i) s at) ≡ entry_at s at ∷ within low high (entries_at (n - (i + 1)) s (at + length_at s at))
    unfolding within
    turn_one b =
        let k = entry_at-key s at in
        let f = up'.0 in
        rw split (rw (le-leb low (entry_at s at).key f, le-leb (entry_at s at).key high (omega arith)))

    pub turn-over : high < key_at s at → within low high (entries_at (n - i) s at) ≡ []
    turn-over b =
        rw split
        (over low high (entry_at s at ∷ entries_at (n - (i + 1)) s (at + length_at s at)) (let k = entry_at-key s at in (omega arith, up'.1)))

  pub turn_end : n ≤ i → within low high (entries_at (n - i) s at) ≡ []
  unfolding entries_at within
  turn_end h = let e : n - i ≡ 0 = omega arith in rw e
