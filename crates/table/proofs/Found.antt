-- Searching bytes finds what searching the entries finds. `find_at` and `seek_at` are one search, `first_at`, with a test each, and so are
-- `find` and `first_from`; each law is proved for any test, by induction on the number of entries.
use Prim.Native.Nat.compare
use Prim.Native.Nat.{ℕ, zero, suc, ◌+◌, ◌≤◌, ◌<◌}
use mathlib.Core.Path.{◌≡◌, refl, sym, ◌∙◌}
use mathlib.Core.Bool.{Bool, true, false, cond}
use mathlib.Core.List.{List, [], ◌∷◌}
use mathlib.Core.Option.{Option, some, none}
use native.Mathlib.Omega.{arith}
use borrow.Author.Tests.{leb-true, leb-false, eqb-true, ne_eqb, lt-ltb}
use lib.Dec.{leb, ltb, eqb}
use Rattle.table.specs.Limits.{table_head}
use Rattle.table.specs.Entry.{Entry, length_at, key_at, entry_at, entry_of}
use Rattle.table.specs.Table.{count_of, entries, entries_at, entries_good, is_memory}
use Rattle.table.specs.Search.{find, first_from, count_below, position_at, position_in, find_at, find_in, seek_at, seek_in, shown}
use Rattle.std.specs.Prelude.{Some, None}
use Rattle.table.proofs.Tests.{cases}
use Rattle.table.proofs.Position.{Stands, good-entry, memory-good, stands}
use Rattle.std.specs.Prelude as code

-- The first entry whose key passes a test, in a list and in bytes.
first : (ℕ → Bool) → List Entry → Option Entry
first test [] = none
first test (e ∷ es) = cond (test e.key) (some e) (first test es)

first_at : (ℕ → Bool) → (n : ℕ) → List ℕ → (at : ℕ) → code.Option ℕ
first_at test zero s at = None
first_at test (suc n) s at = cond (test (key_at s at)) (Some at) (first_at test n s (at + length_at s at))

find_first : (k : ℕ) (es : List Entry) → find k es ≡ first (λ x. eqb x k) es
unfolding find first
find_first k [] = refl
find_first k (e ∷ es) = rw (find_first k es)

from_first : (k : ℕ) (es : List Entry) → first_from k es ≡ first (leb k) es
unfolding first_from first
from_first k [] = refl
from_first k (e ∷ es) = rw (from_first k es)

find_at-first : (n : ℕ) (s : List ℕ) (at k : ℕ) → find_at n s at k ≡ first_at (λ x. eqb x k) n s at
unfolding find_at first_at
find_at-first zero s at k = refl
find_at-first (suc n) s at k = rw (find_at-first n s (at + length_at s at) k)

seek_at-first : (n : ℕ) (s : List ℕ) (at k : ℕ) → seek_at n s at k ≡ first_at (leb k) n s at
unfolding seek_at first_at
seek_at-first zero s at k = refl
seek_at-first (suc n) s at k = rw (seek_at-first n s (at + length_at s at) k)

-- The key of the entry that bytes show.
pub entry_at-key : (s : List ℕ) (at : ℕ) → (entry_at s at).key ≡ key_at s at
unfolding entry_at entry_of
entry_at-key s at = refl

shown-cond : (b : Bool) (s : List ℕ) (at : ℕ) (f : code.Option ℕ) → shown s (cond b (Some at) f) ≡ cond b (some (entry_at s at)) (shown s f)
unfolding shown
shown-cond true s at f = refl
shown-cond false s at f = refl

shown-first : (test : ℕ → Bool) (n : ℕ) (s : List ℕ) (at : ℕ) → shown s (first_at test n s at) ≡ first test (entries_at n s at)
unfolding first first_at entries_at shown
shown-first test zero s at = refl
shown-first test (suc n) s at =
    shown-cond (test (key_at s at)) s at (first_at test n s (at + length_at s at))
    ∙ rw (entry_at-key s at, shown-first test n s (at + length_at s at))

-- What is found in the bytes is what is found in the entries.
pub shown-find : (s : List ℕ) (k : ℕ) → shown s (find_in s k) ≡ find k (entries s)
unfolding find_in entries
shown-find s k =
    rw (find_at-first, find_first) (shown-first (λ x. eqb x k) (count_of s) s table_head)

pub shown-seek : (s : List ℕ) (k : ℕ) → shown s (seek_in s k) ≡ first_from k (entries s)
unfolding seek_in entries
shown-seek s k = rw (seek_at-first, from_first) (shown-first (leb k) (count_of s) s table_head)

-- A position that a search gives is that of an entry, whose key passes the test.
first-at : (test : ℕ → Bool) (n : ℕ) (s : List ℕ) (at p : ℕ) → first_at test n s at ≡ Some p
    → (i : ℕ) × (i < n) × (p ≡ position_at i s at) × (test (key_at s p) ≡ true)
unfolding first_at position_at
first-at test zero s at p h = let z : ◌≡◌ {A = ℕ} 0 1 = cc in absurd (omega arith)
first-at test (suc n) s at p h =
    cases (test (key_at s at))
    (λ q. let e : Some at ≡ Some p = rw q at h in
    let p≡at : p ≡ at = cc in
    (0, omega arith, p≡at, rw p≡at q))
    (λ q. let r = first-at test n s (at + length_at s at) p (rw q at h) in
    (suc r.0, omega (arith, r.1), r.2, r.3))

module _ (s : List ℕ) (m : is_memory s ≡ true) (k p : ℕ) where
  -- What is found stands in the table, under the key that was asked for.
  pub find-stands : find_in s k ≡ Some p → Stands s p × (key_at s p ≡ k)
  unfolding find_in position_in
  find-stands h =
      let r = first-at (λ x. eqb x k) (count_of s) s table_head p (sym (find_at-first (count_of s) s table_head k) ∙ h) in
      (rw r.2 (stands s m r.0 r.1), eqb-true _ _ r.3)

  pub seek-stands : seek_in s k ≡ Some p → Stands s p × (k ≤ key_at s p)
  unfolding seek_in position_in
  seek-stands h =
      let r = first-at (leb k) (count_of s) s table_head p (sym (seek_at-first (count_of s) s table_head k) ∙ h) in
      (rw r.2 (stands s m r.0 r.1), leb-true _ _ r.3)

-- Keys rise, so the entry with a key is the first that is not below it, or there is none.
unfoldable pub exact : List ℕ → (key : ℕ) → code.Option ℕ → code.Option ℕ
exact s k (Some p) = cond (eqb (key_at s p) k) (Some p) None
exact s k None = None

find_none : (n : ℕ) (s : List ℕ) (at least end k : ℕ) → entries_good n s at least end ≡ true → k < least → find_at n s at k ≡ None
unfolding find_at
find_none zero s at least end k h hk = refl
find_none (suc n) s at least end k h hk =
    let g = good-entry n s at least end h in
    rw (ne_eqb (key_at s at) k (λ e. omega arith)) (find_none n s (at + length_at s at) (suc (key_at s at)) end k g.rest (omega arith))

find-exactly : (n : ℕ) (s : List ℕ) (at least end k : ℕ) → entries_good n s at least end ≡ true
    → find_at n s at k ≡ exact s k (seek_at n s at k)
unfolding find_at seek_at exact
find-exactly zero s at least end k h = refl
find-exactly (suc n) s at least end k h =
    let g = good-entry n s at least end h in
    cases (leb k (key_at s at))
    (λ q. let above : k ≤ key_at s at = leb-true _ _ q in
    let none : find_at n s (at + length_at s at) k ≡ None =
    find_none n s (at + length_at s at) (suc (key_at s at)) end k g.rest (omega arith) in
    rw (q, none))
    (λ q. let below : key_at s at < k = leb-false _ _ q in
    rw (q, ne_eqb (key_at s at) k (λ e. omega arith)) (find-exactly n s (at + length_at s at) (suc (key_at s at)) end k g.rest))

pub find-exact : (s : List ℕ) (k : ℕ) → is_memory s ≡ true → find_in s k ≡ exact s k (seek_in s k)
unfolding find_in seek_in
find-exact s k m = find-exactly (count_of s) s table_head 0 (length_at s 0) k (memory-good s m).good

-- ---- how many are passed

below_less : (a n : ℕ) → ltb (suc a) (suc n) ≡ ltb a n
below_less a n = rw (compare.suc-suc (suc a) n)

-- The first entry from a key on stands behind those below it, if any does.
seek_at-below : (n : ℕ) (s : List ℕ) (at k : ℕ)
    → seek_at n s at k ≡ cond (ltb (count_below k (entries_at n s at)) n) (Some (position_at (count_below k (entries_at n s at)) s at)) None
unfolding seek_at entries_at count_below position_at
seek_at-below zero s at k = refl
seek_at-below (suc n) s at k =
    let next = at + length_at s at in
    rw (entry_at-key s at)
    (cases (leb k (key_at s at))
    (λ q. rw (q, lt-ltb 0 (suc n) (omega arith)))
    (λ q. rw (q, below_less (count_below k (entries_at n s next)) n) (seek_at-below n s next k)))

pub seek-below : (s : List ℕ) (k : ℕ)
    → seek_in s k ≡ cond (ltb (count_below k (entries s)) (count_of s)) (Some (position_in (count_below k (entries s)) s)) None
unfolding seek_in entries position_in
seek-below s k = seek_at-below (count_of s) s table_head k
