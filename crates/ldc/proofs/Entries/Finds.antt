-- What `find` meets in lists that are put together. It takes the first match, so no law here needs that keys rise.
-- Each goes by induction on the list, with a case for each test.
use Prim.Native.Nat.{ℕ}
use mathlib.Core.Path.{◌≡◌, refl, sym, ◌∙◌, ap}
use mathlib.Core.List.{List, [], ◌∷◌, ◌++◌}
use mathlib.Core.Bool.{true, false, cond, ◌&&◌}
use mathlib.Core.Option.{Option, some, none}
use borrow.Author.Tests.{eqb-true, eqb-false, ne_eqb}
use lib.Dec.{leb, ltb, eqb}
use Rattle.table.specs.Entry.{Entry}
use Rattle.table.specs.Search.{find}
use Rattle.ldc.specs.Lists.{flat}
use Rattle.ldc.specs.Store.{within}
use Rattle.ldc.specs.Memtable.{put}
use Rattle.ldc.specs.Read.{newer, gather}
use Rattle.ldc.proofs.Basics.Cases.{cases}

-- The first of two, where it is there.
abbrev pub or_else : Option Entry → Option Entry → Option Entry
or_else (some e) later = some e
or_else none later = later

pub or_else-assoc : (a b c : Option Entry) → or_else (or_else a b) c ≡ or_else a (or_else b c)
or_else-assoc (some e) b c = refl
or_else-assoc none b c = refl

pub find-append : (k : ℕ) (xs ys : List Entry) → find k (xs ++ ys) ≡ or_else (find k xs) (find k ys)
unfolding find
find-append k [] ys = refl
find-append k (e ∷ es) ys =
    cases (eqb e.key k)
    (λ q. rw q)
    (λ q. rw q (find-append k es ys))

pub find-put : (k : ℕ) (e : Entry) (es : List Entry) → find k (put e es) ≡ cond (eqb e.key k) (some e) (find k es)
unfolding find
find-put k e [] = refl
find-put k e (f ∷ es) =
    cases (ltb e.key f.key)
    (λ lt. rw lt)
    (λ ge. cases (eqb e.key f.key)
    (λ eq. cases (eqb e.key k)
    (λ q. rw (ge, eq, q))
    (λ q. let q' : eqb f.key k ≡ false = rw (eqb-true e.key f.key eq) at q in rw (ge, eq, q, q')))
    (λ ne. cases (eqb f.key k)
    (λ q. let r : eqb e.key k ≡ false = ne_eqb e.key k (λ ek. eqb-false e.key f.key ne (ek ∙ sym (eqb-true f.key k q))) in
    rw (ge, ne, q, r))
    (λ q. rw (ge, ne, q) (find-put k e es))))

pub find-newer : (k : ℕ) (xs ys : List Entry) → find k (newer xs ys) ≡ or_else (find k xs) (find k ys)
unfolding find
find-newer k [] ys = refl
find-newer k (e ∷ es) ys =
    cases (eqb e.key k)
    (λ q. rw q (find-put k e (newer es ys) ∙ (rw q)))
    (λ q. rw q (find-put k e (newer es ys) ∙ (rw q (find-newer k es ys))))

-- One list of many is read as the many, one after the other.
pub find-gather : (k : ℕ) (sources : List (List Entry)) → find k (gather sources) ≡ find k (flat sources)
find-gather k [] = refl
find-gather k (es ∷ rest) =
    find-newer k es (gather rest) ∙ ap (or_else (find k es)) (find-gather k rest) ∙ sym (find-append k es (flat rest))

-- What a range leaves.
pub find-within : (k low high : ℕ) (es : List Entry) → find k (within low high es) ≡ cond (leb low k && leb k high) (find k es) none
unfolding find within
find-within k low high [] = cases (leb low k && leb k high) (λ q. rw q) (λ q. rw q)
find-within k low high (e ∷ es) =
    cases (eqb e.key k)
    (λ q. let same : e.key ≡ k = eqb-true e.key k q in
    cases (leb low k && leb k high)
    (λ r. let r' : (leb low e.key && leb e.key high) ≡ true = rw same r in rw (r', r, q))
    (λ r. let r' : (leb low e.key && leb e.key high) ≡ false = rw same r in rw r' (find-within k low high es ∙ rw r)))
    (λ q. cases (leb low e.key && leb e.key high)
    (λ r. rw (r, q) (find-within k low high es))
    (λ r. rw (r, q) (find-within k low high es)))
