-- Rising keys: kept by put, newer, gather, keep and by cutting; and two rising lists in which every key finds the same are one.
-- By induction on the list, with `Keys low high` giving each step its bounds.
use Prim.Native.Nat.{ℕ, zero, suc, ◌≤◌, ◌<◌}
use mathlib.Core.Path.{◌≡◌, refl, sym, ◌∙◌, ap}
use mathlib.Core.List.{List, [], ◌∷◌, ◌++◌}
use mathlib.Core.Bool.{Bool, cond, ◌&&◌}
use mathlib.Core.Option.{Option, some, none}
use native.Mathlib.Omega.{arith}
use borrow.Author.Tests.{eqb-true, eqb-false, leb-true, ltb-true, ltb-false, eq-eqb, ne_eqb}
use lib.Dec.{leb, ltb, eqb}
use lib.ListN.{take, drop}
use Rattle.table.specs.Entry.{Entry}
use Rattle.table.specs.Search.{find}
use Rattle.table.specs.Valid.{Keys, Values}
use Rattle.ldc.specs.Lists.{keep}
use Rattle.ldc.specs.Store.{within}
use Rattle.ldc.specs.Memtable.{put}
use Rattle.ldc.specs.Read.{newer, gather}
use Rattle.ldc.proofs.Basics.Cases.{cases, both_left, both_right}

-- ---- bounds

pub keys-order : (low high : ℕ) (es : List Entry) → Keys low high es → low ≤ high
keys-order low high [] h = h
keys-order low high (e ∷ es) h = let r = keys-order (suc e.key) high es h.1 in omega arith

pub keys-lower : (low low' high : ℕ) (es : List Entry) → low' ≤ low → Keys low high es → Keys low' high es
keys-lower low low' high [] l h = omega arith
keys-lower low low' high (e ∷ es) l h = (omega arith, h.1)

pub keys-higher : (low high high' : ℕ) (es : List Entry) → high ≤ high' → Keys low high es → Keys low high' es
keys-higher low high high' [] l h = omega arith
keys-higher low high high' (e ∷ es) l h = (h.0, keys-higher (suc e.key) high high' es l h.1)

pub head-below : (low high : ℕ) (e : Entry) (es : List Entry) → Keys low high (e ∷ es) → e.key < high
head-below low high e es h = keys-order (suc e.key) high es h.1

pub keys-tail : (low high : ℕ) (e : Entry) (es : List Entry) → Keys low high (e ∷ es) → Keys low high es
keys-tail low high e es h = keys-lower (suc e.key) low high es (omega arith) h.1

-- ---- what is not found

pub find-below : (k low high : ℕ) (es : List Entry) → Keys low high es → k < low → find k es ≡ none
unfolding find
find-below k low high [] h l = refl
find-below k low high (e ∷ es) h l =
    rw (ne_eqb e.key k (λ q. omega arith)) (find-below k (suc e.key) high es h.1 (omega arith))

pub find-above : (k low high : ℕ) (es : List Entry) → Keys low high es → high ≤ k → find k es ≡ none
unfolding find
find-above k low high [] h l = refl
find-above k low high (e ∷ es) h l =
    let b : e.key < high = head-below low high e es h in
    rw (ne_eqb e.key k (λ q. omega arith)) (find-above k (suc e.key) high es h.1 l)

-- ---- kept by the operations

pub keys-put : (low high : ℕ) (e : Entry) (es : List Entry) → low ≤ e.key → e.key < high → Keys low high es → Keys low high (put e es)
keys-put low high e [] l b h = (l, b)
keys-put low high e (f ∷ es) l b h =
    cases (ltb e.key f.key)
    (λ lt. rw lt (l, (ltb-true e.key f.key lt, h.1)))
    (λ ge. cases (eqb e.key f.key)
    (λ eq. rw (ge, eq) (l, keys-lower (suc f.key) (suc e.key) high es (omega (arith, eqb-true e.key f.key eq)) h.1))
    (λ ne. rw (ge, ne) (
      h.0,
      keys-put (suc f.key) high e es
          (let d : e.key ≡ f.key → ⊥ = eqb-false e.key f.key ne in
          let g : f.key ≤ e.key = ltb-false e.key f.key ge in omega arith)
          b h.1,
    )))

pub keys-newer : (low high : ℕ) (xs ys : List Entry) → Keys low high xs → Keys low high ys → Keys low high (newer xs ys)
keys-newer low high [] ys hx hy = hy
keys-newer low high (e ∷ es) ys hx hy =
    keys-put low high e (newer es ys) hx.0 (head-below low high e es hx)
    (keys-newer low high es ys (keys-tail low high e es hx) hy)

-- All of some lists have rising keys.
abbrev pub AllKeys : (low high : ℕ) → List (List Entry) → Type 0
AllKeys low high [] = low ≤ high
AllKeys low high (es ∷ rest) = Keys low high es × AllKeys low high rest

pub keys-gather : (low high : ℕ) (sources : List (List Entry)) → AllKeys low high sources → Keys low high (gather sources)
keys-gather low high [] h = h
keys-gather low high (es ∷ rest) h = keys-newer low high es (gather rest) h.0 (keys-gather low high rest h.1)

pub all-keys-append : (low high : ℕ) (xs ys : List (List Entry)) → AllKeys low high xs → AllKeys low high ys → AllKeys low high (xs ++ ys)
all-keys-append low high [] ys hx hy = hy
all-keys-append low high (x ∷ xs) ys hx hy = (hx.0, all-keys-append low high xs ys hx.1 hy)

pub keys-keep : (low high : ℕ) (test : Entry → Bool) (es : List Entry) → Keys low high es → Keys low high (keep test es)
keys-keep low high test [] h = h
keys-keep low high test (e ∷ es) h =
    cases (test e)
    (λ q. rw q (h.0, keys-keep (suc e.key) high test es h.1))
    (λ q. rw q (keys-keep low high test es (keys-tail low high e es h)))

-- What a range leaves lies in the range, and is not below what was there.
pub keys-within-low : (low high from to : ℕ) (es : List Entry) → low ≤ suc to → Keys low high es → Keys low (suc to) (within from to es)
unfolding within
keys-within-low low high from to [] o h = o
keys-within-low low high from to (e ∷ es) o h =
    cases (leb from e.key && leb e.key to)
    (λ q. let t : e.key ≤ to = leb-true e.key to (both_right (leb from e.key) (leb e.key to) q) in
    rw q (h.0, keys-within-low (suc e.key) high from to es (omega arith) h.1))
    (λ q. rw q (keys-within-low low high from to es o (keys-tail low high e es h)))

pub keys-within : (low high from to : ℕ) (es : List Entry) → from ≤ suc to → Keys low high es → Keys from (suc to) (within from to es)
unfolding within
keys-within low high from to [] o h = o
keys-within low high from to (e ∷ es) o h =
    cases (leb from e.key && leb e.key to)
    (λ q. let f : from ≤ e.key = leb-true from e.key (both_left (leb from e.key) (leb e.key to) q) in
    let t : e.key ≤ to = leb-true e.key to (both_right (leb from e.key) (leb e.key to) q) in
    rw q (f, keys-within-low (suc e.key) high from to es (omega arith) h.1))
    (λ q. rw q (keys-within low high from to es o (keys-tail low high e es h)))

-- ---- kept by keep, found

-- What a test leaves of rising entries.
abbrev pub passing : (Entry → Bool) → Option Entry → Option Entry
passing test none = none
passing test (some e) = cond (test e) (some e) none

pub find-keep : (k low high : ℕ) (test : Entry → Bool) (es : List Entry) → Keys low high es → find k (keep test es) ≡ passing test (find k es)
unfolding find
find-keep k low high test [] h = refl
find-keep k low high test (e ∷ es) h =
    cases (test e)
    (λ q. cases (eqb e.key k)
    (λ r. rw (q, r) (rw q))
    (λ r. rw (q, r) (find-keep k (suc e.key) high test es h.1)))
    (λ q. cases (eqb e.key k)
    (λ r. rw (q, r)
    (rw q
    (find-keep k (suc e.key) high test es h.1
    ∙ ap (passing test) (find-below k (suc e.key) high es h.1 (omega (arith, eqb-true e.key k r))))))
    (λ r. rw (q, r) (find-keep k (suc e.key) high test es h.1)))

-- ---- equal finds, equal lists

find_head : (e : Entry) (es : List Entry) → find e.key (e ∷ es) ≡ some e
unfolding find
find_head e es = rw (eq-eqb e.key e.key refl)

find-tail : (k : ℕ) (e : Entry) (es : List Entry) → e.key < k → find k (e ∷ es) ≡ find k es
unfolding find
find-tail k e es h = rw (ne_eqb e.key k (λ q. omega arith))

some-none : {P : Type 0} (o : Option Entry) (e : Entry) → o ≡ some e → o ≡ none → P
some-none o e p q = absurd (let z : ◌≡◌ {A = ℕ} 0 1 = cc in omega arith)

pub keys-ext : (low high : ℕ) (xs ys : List Entry) → Keys low high xs → Keys low high ys → ((k : ℕ) → find k xs ≡ find k ys) → xs ≡ ys
unfolding find
keys-ext low high [] [] hx hy same = refl
keys-ext low high [] (f ∷ ys) hx hy same = some-none (find f.key (f ∷ ys)) f (find_head f ys) (sym (same f.key))
keys-ext low high (e ∷ xs) [] hx hy same = some-none (find e.key (e ∷ xs)) e (find_head e xs) (same e.key)
keys-ext low high (e ∷ xs) (f ∷ ys) hx hy same =
    cases (ltb e.key f.key)
    (λ lt. some-none (find e.key (e ∷ xs)) e (find_head e xs)
    (same e.key ∙ find-below e.key f.key high (f ∷ ys) (omega arith, hy.1) (ltb-true e.key f.key lt)))
    (λ ge. cases (ltb f.key e.key)
    (λ gt. some-none (find f.key (f ∷ ys)) f (find_head f ys)
    (sym (same f.key) ∙ find-below f.key e.key high (e ∷ xs) (omega arith, hx.1) (ltb-true f.key e.key gt)))
    (λ le.
    let q : e.key ≡ f.key = omega (arith, ltb-false e.key f.key ge, ltb-false f.key e.key le) in
    let heads : ◌≡◌ {A = Option Entry} (some e) (some f) =
    sym (find_head e xs) ∙ same e.key ∙ ap (λ k. find k (f ∷ ys)) q ∙ find_head f ys in
    let ef : e ≡ f = cc in
    let tails : (k : ℕ) → find k xs ≡ find k ys = λ k.
    cases (ltb e.key k)
    (λ lt. sym (find-tail k e xs (ltb-true e.key k lt)) ∙ same k
    ∙ find-tail k f ys (omega (arith, ltb-true e.key k lt)))
    (λ nl. find-below k (suc e.key) high xs hx.1 (omega (arith, ltb-false e.key k nl))
    ∙ sym (find-below k (suc f.key) high ys hy.1 (omega (arith, ltb-false e.key k nl)))) in
    let rest : xs ≡ ys = keys-ext (suc e.key) high xs ys hx.1
    (keys-lower (suc f.key) (suc e.key) high ys (omega arith) hy.1) tails in
    rw (ef, rest)))

-- ---- values

pub values-put : (e : Entry) (es : List Entry) → Values (e ∷ []) → Values es → Values (put e es)
values-put e [] v h = v
values-put e (f ∷ es) v h =
    cases (ltb e.key f.key)
    (λ lt. rw lt (v.0, h))
    (λ ge. cases (eqb e.key f.key)
    (λ eq. rw (ge, eq) (v.0, h.1))
    (λ ne. rw (ge, ne) (h.0, values-put e es v h.1)))

pub values-newer : (xs ys : List Entry) → Values xs → Values ys → Values (newer xs ys)
values-newer [] ys hx hy = hy
values-newer (e ∷ es) ys hx hy = values-put e (newer es ys) (hx.0, tt) (values-newer es ys hx.1 hy)

abbrev pub AllValues : List (List Entry) → Type 0
AllValues [] = Unit {0}
AllValues (es ∷ rest) = Values es × AllValues rest

pub values-gather : (sources : List (List Entry)) → AllValues sources → Values (gather sources)
values-gather [] h = tt
values-gather (es ∷ rest) h = values-newer es (gather rest) h.0 (values-gather rest h.1)

pub all-values-append : (xs ys : List (List Entry)) → AllValues xs → AllValues ys → AllValues (xs ++ ys)
all-values-append [] ys hx hy = hy
all-values-append (x ∷ xs) ys hx hy = (hx.0, all-values-append xs ys hx.1 hy)

pub values-keep : (test : Entry → Bool) (es : List Entry) → Values es → Values (keep test es)
values-keep test [] h = tt
values-keep test (e ∷ es) h =
    cases (test e)
    (λ q. rw q (h.0, values-keep test es h.1))
    (λ q. rw q (values-keep test es h.1))

pub values-take : (n : ℕ) (es : List Entry) → Values es → Values (take n es)
values-take zero es h = tt
values-take (suc n) [] h = tt
values-take (suc n) (e ∷ es) h = (h.0, values-take n es h.1)

pub values-drop : (n : ℕ) (es : List Entry) → Values es → Values (drop n es)
values-drop zero es h = h
values-drop (suc n) [] h = tt
values-drop (suc n) (e ∷ es) h = values-drop n es h.1
