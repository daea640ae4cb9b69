-- One turn of the loops that judge a table: what is left of a definition, after a byte and after an entry.
use Prim.Native.Nat.{ℕ, suc, ◌+◌, ◌-◌, ◌≤◌, ◌<◌}
use mathlib.Core.Path.{◌≡◌, refl, sym, ◌∙◌}
use mathlib.Core.Bool.{Bool, true, false, cond, ◌&&◌, ◌||◌, and_assoc, and-true}
use mathlib.Core.List.{List, [], ◌∷◌}
use native.Mathlib.Omega.{arith}
use native.Mathlib.Numerals.{add-one}
use borrow.Author.Tests.{le-leb, lt-leb}
use lib.Dec.{leb, ltb, eqb, leb-zero, eqb-suc-zero}
use lib.ListN.{length, get_or, drop, drop_of_length-le}
use lib.Seq.{drop-cons}
use Rattle.coding.specs.Number.{number_at}
use Rattle.table.specs.Limits.{table_head, table_limit}
use Rattle.table.specs.Entry.{Entry, length_at, kind_at, key_at, entry_form}
use Rattle.table.specs.Table.{count_of, entries_at, entries_good, all_zero, table_good}
use Rattle.table.specs.Search.{count_below, greatest_key}
use Rattle.table.proofs.Found.{entry_at-key}

-- All numbers of a list are zero if those passed are, as `zero` says, and those from i on: the one at i and all behind it.
pub zero_turn : (s : List ℕ) (i : ℕ) (zero whole : Bool) → i < length s → whole ≡ zero && all_zero (drop i s)
    → whole ≡ (zero && eqb (get_or s i 0) 0) && all_zero (drop (i + 1) s)
unfolding all_zero
zero_turn s i zero whole h e =
    e ∙ rw (drop-cons s i 0 h, add-one i) (sym (and_assoc zero (eqb (get_or s i 0) 0) (all_zero (drop (suc i) s))))

-- Where none is left, they are if those passed are.
pub zero-end : (s : List ℕ) (i : ℕ) (zero whole : Bool) → length s ≤ i → whole ≡ zero && all_zero (drop i s) → zero ≡ whole
unfolding all_zero
zero-end s i zero whole h e =
    let none : drop i s ≡ [] = drop_of_length-le s {i = i} h in
    sym (e ∙ rw none (and-true zero))

-- The least key that the i-th entry may have, `last` being the key before it.
unfoldable pub least_after : (i last : ℕ) → ℕ
least_after i last = cond (eqb i 0) 0 (suc last)

least-test : (b : Bool) (last key : ℕ) → leb (cond b 0 (suc last)) key ≡ b || ltb last key
least-test true last key = leb-zero key
least-test false last key = refl

-- The entries from the i-th on are good if it is, and all behind it.
pub good_turn : (n i : ℕ) (s : List ℕ) (at last end : ℕ) → i < n
    → entries_good (n - i) s at (least_after i last) end
    ≡ (entry_form (kind_at s at) (length_at s at) && (eqb i 0 || ltb last (key_at s at)))
    && entries_good (n - (i + 1)) s (at + length_at s at) (least_after (i + 1) (key_at s at)) end
unfolding entries_good least_after
good_turn n i s at last end h =
    let e : n - i ≡ suc (n - (i + 1)) = omega arith in
    rw (e, add-one i, eqb-suc-zero i, least-test (eqb i 0) last (key_at s at), and_assoc)

-- As many keys of the entries from the i-th on are below k as this one's and those behind it; where none is left, none is.
pub below-turn : (k n i : ℕ) (s : List ℕ) (at : ℕ) → i < n
    → count_below k (entries_at (n - i) s at)
    ≡ cond (leb k (key_at s at)) 0 (suc (count_below k (entries_at (n - (i + 1)) s (at + length_at s at))))
unfolding entries_at count_below
below-turn k n i s at h =
    let e : n - i ≡ suc (n - (i + 1)) = omega arith in
    rw (e, entry_at-key s at)

pub below_end : (k n i : ℕ) (s : List ℕ) (at : ℕ) → n ≤ i → count_below k (entries_at (n - i) s at) ≡ 0
unfolding entries_at count_below
below_end k n i s at h = let e : n - i ≡ 0 = omega arith in rw e

-- Counting them from the front on: i are passed, and `whole` are those and the ones below k that are left, from the i-th on at `at`.
module _ (k n i : ℕ) (s : List ℕ) (at whole : ℕ) (e : whole ≡ i + count_below k (entries_at (n - i) s at)) where
  -- The first that is not below k ends them.
  pub all-passed : i < n → (x : ℕ) → x ≡ key_at s at → k ≤ x → i ≡ whole
  all-passed h x p q =
      let t : count_below k (entries_at (n - i) s at) ≡ 0 = below-turn k n i s at h ∙ rw (le-leb k (key_at s at) (omega arith)) in
      omega (arith, e, t)

  -- One that is below k is counted on.
  pub one-passed : i < n → (x : ℕ) → x ≡ key_at s at → x < k → (len : ℕ) → len ≡ length_at s at
      → whole ≡ i + 1 + count_below k (entries_at (n - (i + 1)) s (at + len))
  one-passed h x p q len l =
      let t : count_below k (entries_at (n - i) s at) ≡ suc (count_below k (entries_at (n - (i + 1)) s (at + length_at s at))) =
      below-turn k n i s at h ∙ rw (lt-leb k (key_at s at) (omega arith)) in
      rw l (omega (arith, e, t))

  -- Where none is left, all are passed.
  pub none-left : n ≤ i → i ≡ whole
  none-left h = omega (arith, e, below_end k n i s at h)

-- The last key of some entries, `last` being the key before them: theirs, or `last` where there are none. It is the greatest.
unfoldable pub last_after : (last : ℕ) → List Entry → ℕ
last_after last [] = last
last_after last (e ∷ es) = last_after e.key es

pub greatest-last : (es : List Entry) → greatest_key es ≡ last_after 0 es
unfolding greatest_key last_after
greatest-last [] = refl
greatest-last (e ∷ []) = refl
greatest-last (e ∷ f ∷ es) = greatest-last (f ∷ es)

pub last_turn : (n i : ℕ) (s : List ℕ) (at last : ℕ) → i < n
    → last_after last (entries_at (n - i) s at) ≡ last_after (key_at s at) (entries_at (n - (i + 1)) s (at + length_at s at))
unfolding entries_at last_after
last_turn n i s at last h =
    let e : n - i ≡ suc (n - (i + 1)) = omega arith in
    rw (e, entry_at-key s at)

pub last_end : (n i : ℕ) (s : List ℕ) (at last : ℕ) → n ≤ i → last_after last (entries_at (n - i) s at) ≡ last
unfolding entries_at last_after
last_end n i s at last h = let e : n - i ≡ 0 = omega arith in rw e

-- A table is good if its head is, its entries are and the rest is zero.
pub good-head : (fewest : ℕ) (s : List ℕ)
    → table_good fewest s
    ≡ (eqb (kind_at s 0) 32 && (leb fewest (count_of s) && (leb (count_of s) table_limit && eqb (number_at 2 s 6) 0)))
    && (entries_good (count_of s) s table_head 0 (length_at s 0) && all_zero (drop (length_at s 0) s))
unfolding table_good
good-head fewest s = simp and_assoc
