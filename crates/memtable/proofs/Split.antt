-- A put among rising entries leaves those below its key, then the new one, then those behind it. By induction on the entries.
use Prim.Native.Nat.{ℕ, zero, suc, ◌+◌, ◌-◌, ◌≤◌, ◌<◌}
use mathlib.Core.Path.{◌≡◌, refl, sym, ap}
use mathlib.Core.Bool.{Bool, true, false, cond, false≢true}
use mathlib.Core.List.{List, [], ◌∷◌, ◌++◌}
use mathlib.Core.Option.{none}
use native.Mathlib.Omega.{arith}
use native.Mathlib.Nat.{sub-zero}
use borrow.Author.Tests.{leb-true, leb-false, eqb-true, eqb-false, eq-eqb, ne_eqb, lt-ltb, le-ltb}
use lib.Dec.{leb, eqb}
use lib.ListN.{length}
use Rattle.table.specs.Entry.{Entry, length_at, key_at, entry_at}
use Rattle.table.specs.Table.{entries_at, entries_good}
use Rattle.table.specs.Search.{find, count_below, position_at}
use Rattle.table.proofs.Tests.{cases}
use Rattle.table.proofs.Position.{good-entry}
use Rattle.table.proofs.Found.{entry_at-key}
use Rattle.ldc.specs.Lists.{is_some}
use Rattle.ldc.specs.Memtable.{put}

-- Below the first key nothing is found.
none_below : (k n : ℕ) (s : List ℕ) (at least end : ℕ) → entries_good n s at least end ≡ true → k < least → find k (entries_at n s at) ≡ none
unfolding find entries_at
none_below k zero s at least end g h = refl
none_below k (suc n) s at least end g h =
    let e = good-entry n s at least end g in
    rw (entry_at-key s at, ne_eqb (key_at s at) k (λ q. omega arith))
    (none_below k n s (at + length_at s at) (suc (key_at s at)) end e.rest (omega arith))

-- Those in front are no more than all, and fewer if the key is there.
pub below-few : (k : ℕ) (es : List Entry) → count_below k es ≤ length es
unfolding count_below
below-few k [] = omega arith
below-few k (e ∷ es) = cases (leb k e.key) (λ q. rw q (omega arith)) (λ q. rw q (omega (arith, below-few k es)))

pub below-fewer : (k : ℕ) (es : List Entry) → is_some (find k es) ≡ true → count_below k es < length es
unfolding count_below find
below-fewer k [] h = absurd (false≢true h)
below-fewer k (e ∷ es) h =
    cases (leb k e.key) (λ q. rw q (omega arith))
    (λ q. let lt = leb-false k e.key q in
    let t : is_some (find k es) ≡ true = rw (ne_eqb e.key k (λ p. omega arith)) at h in
    rw q (omega (arith, below-fewer k es t)))

cond-suc : (b : Bool) (i : ℕ) → cond b (suc (suc i)) (suc i) ≡ suc (cond b (suc i) i)
cond-suc true i = refl
cond-suc false i = refl

-- Where the entries behind the new one begin.
unfoldable pub next : (key : ℕ) → List Entry → ℕ
next k es = cond (is_some (find k es)) (suc (count_below k es)) (count_below k es)

pub put-split : (e : Entry) (n : ℕ) (s : List ℕ) (at least end : ℕ) → entries_good n s at least end ≡ true
    → put e (entries_at n s at)
    ≡ entries_at (count_below e.key (entries_at n s at)) s at
    ++ (e ∷ entries_at (n - next e.key (entries_at n s at)) s (position_at (next e.key (entries_at n s at)) s at))
unfolding entries_at count_below find next position_at
put-split e zero s at least end g = refl
put-split e (suc n) s at least end g =
    let k = e.key in
    let x : ℕ = (entry_at s at).key in
    let rest = entries_at n s (at + length_at s at) in
    let key : x ≡ key_at s at = entry_at-key s at in
    let h = good-entry n s at least end g in
    cases (leb k x)
    (λ q. let ge = leb-true k x q in
    cases (eqb x k)
    (λ r. let same : x ≡ k = eqb-true x k r in
    let one : suc n - 1 ≡ n = omega arith in
    rw (q, r, le-ltb k x (omega arith), eq-eqb k x (sym same)) (rw one))
    (λ r. let other = eqb-false x k r in
    let missing : find k rest ≡ none =
    none_below k n s (at + length_at s at) (suc (key_at s at)) end h.rest (omega arith) in
    rw (q, r, missing, lt-ltb k x (omega arith)) (rw (sub-zero (suc n)))))
    (λ q. let lt = leb-false k x q in
    let less : suc n - suc (next k rest) ≡ n - next k rest = omega arith in
    let ih = put-split e n s (at + length_at s at) (suc (key_at s at)) end h.rest in
    rw (
      q,
      ne_eqb x k (λ p. omega arith),
      le-ltb k x (omega arith),
      ne_eqb k x (λ p. omega arith),
      cond-suc (is_some (find k rest)) (count_below k rest),
      less,
    )
    (ap (λ es. entry_at s at ∷ es) ih))
