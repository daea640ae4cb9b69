-- What is taken in source after source, the older first, is the first entries of what `gather` gives; and of what a range leaves of it.
use Prim.Native.Nat.{ℕ, zero, suc}
use mathlib.Core.Path.{◌≡◌, refl, sym, ◌∙◌, ap}
use mathlib.Core.List.{List, [], ◌∷◌, map}
use mathlib.Core.Bool.{Bool, cond, ◌&&◌}
use mathlib.Core.Option.{Option, none}
use native.Mathlib.Omega.{arith}
use borrow.Author.Tests.{eqb-true}
use lib.Dec.{leb, ltb, eqb}
use lib.ListN.{take}
use lib.Seq.{take-take, take-nil}
use Rattle.table.specs.Entry.{Entry}
use Rattle.table.specs.Search.{find}
use Rattle.table.specs.Valid.{Keys}
use Rattle.ldc.specs.Lists.{flat}
use Rattle.ldc.specs.Store.{within}
use Rattle.ldc.specs.Memtable.{put}
use Rattle.ldc.specs.Read.{newer, gather}
use Rattle.ldc.proofs.Basics.Cases.{cases}
use Rattle.ldc.proofs.Entries.Finds.{or_else, find-append, find-put, find-newer, find-gather, find-within}
use Rattle.ldc.proofs.Entries.Keys.{AllKeys, keys-ext, keys-put, keys-newer, keys-gather, keys-tail, keys-keep, head-below, find-below}
use Rattle.read_gather.specs.Gathered.{intake, gathered}

-- ---- the first so many

-- What is beyond the first n does not matter to the first n.
take_more : (n : ℕ) (f : Entry) (es : List Entry) → take n (f ∷ take n es) ≡ take n (f ∷ es)
take_more zero f es = refl
take_more (suc n) f es = ap (λ (xs : List Entry). f ∷ xs) (take-take n (suc n) es (omega arith))

pub take_put : (n : ℕ) (e : Entry) (es : List Entry) → take n (put e (take n es)) ≡ take n (put e es)
take_put zero e es = refl
take_put (suc n) e [] = refl
take_put (suc n) e (f ∷ es) =
    cases (ltb e.key f.key)
    (λ lt. rw lt (ap (λ (xs : List Entry). e ∷ xs) (take_more n f es)))
    (λ ge. cases (eqb e.key f.key)
    (λ eq. rw (ge, eq) (ap (λ (xs : List Entry). e ∷ xs) (take-take n n es (omega arith))))
    (λ ne. rw (ge, ne) (ap (λ (xs : List Entry). f ∷ xs) (take_put n e es))))

-- ---- one by one

-- All entries of a source put among others one by one, none left out.
abbrev pub puts : List Entry → List Entry → List Entry
puts [] es = es
puts (x ∷ xs) es = puts xs (put x es)

pub intake-puts : (n : ℕ) (xs es : List Entry) → intake n xs (take n es) ≡ take n (puts xs es)
intake-puts n [] es = refl
intake-puts n (x ∷ xs) es = rw (take_put n x es) (intake-puts n xs (put x es))

keys-puts : (low high : ℕ) (xs es : List Entry) → Keys low high xs → Keys low high es → Keys low high (puts xs es)
keys-puts low high [] es hx he = he
keys-puts low high (x ∷ xs) es hx he =
    keys-puts low high xs (put x es) (keys-tail low high x xs hx) (keys-put low high x es hx.0 (head-below low high x xs hx) he)

find-puts : (k low high : ℕ) (xs es : List Entry) → Keys low high xs → find k (puts xs es) ≡ or_else (find k xs) (find k es)
unfolding find
find-puts k low high [] es h = refl
find-puts k low high (x ∷ xs) es h =
    let step = find-puts k (suc x.key) high xs (put x es) h.1 in
    cases (eqb x.key k)
    (λ q. let none' : find k xs ≡ none = find-below k (suc x.key) high xs h.1 (omega (arith, eqb-true x.key k q)) in
    step ∙ ap (λ o. or_else o (find k (put x es))) none' ∙ find-put k x es ∙ rw q)
    (λ q. step ∙ ap (or_else (find k xs)) (find-put k x es) ∙ rw q)

-- Where keys rise, it does not matter which of them is put first.
pub puts-newer : (low high : ℕ) (xs es : List Entry) → Keys low high xs → Keys low high es → puts xs es ≡ newer xs es
puts-newer low high xs es hx he =
    keys-ext low high (puts xs es) (newer xs es) (keys-puts low high xs es hx he) (keys-newer low high xs es hx he)
    (λ k. find-puts k low high xs es hx ∙ sym (find-newer k xs es))

pub intake-newer : (n low high : ℕ) (xs es : List Entry) → Keys low high xs → Keys low high es → intake n xs (take n es) ≡ take n (newer xs es)
intake-newer n low high xs es hx he = intake-puts n xs es ∙ ap (take n) (puts-newer low high xs es hx he)

-- What is gathered is the first n of all.
pub gathered-first : (n low high : ℕ) (sources : List (List Entry)) → AllKeys low high sources → gathered n sources ≡ take n (gather sources)
gathered-first n low high [] h = sym (take-nil n)
gathered-first n low high (es ∷ rest) h =
    ap (intake n es) (gathered-first n low high rest h.1) ∙ intake-newer n low high es (gather rest) h.0 (keys-gather low high rest h.1)

-- ---- a range

or_else-cond : (b : Bool) (x y : Option Entry) → or_else (cond b x none) (cond b y none) ≡ cond b (or_else x y) none
or_else-cond b x y = cases b (λ q. rw q) (λ q. rw q)

find-ranges : (k low high : ℕ) (sources : List (List Entry))
    → find k (flat (map (within low high) sources)) ≡ cond (leb low k && leb k high) (find k (flat sources)) none
unfolding find
find-ranges k low high [] = cases (leb low k && leb k high) (λ q. rw q) (λ q. rw q)
find-ranges k low high (es ∷ rest) =
    find-append k (within low high es) (flat (map (within low high) rest))
    ∙ rw (find-within k low high es, find-ranges k low high rest)
    (or_else-cond (leb low k && leb k high) (find k es) (find k (flat rest))
    ∙ ap (λ o. cond (leb low k && leb k high) o none) (sym (find-append k es (flat rest))))

pub keys-ranges : (low high from to : ℕ) (sources : List (List Entry)) → AllKeys from to sources → AllKeys from to (map (within low high) sources)
unfolding within
keys-ranges low high from to [] h = h
keys-ranges low high from to (es ∷ rest) h = (keys-keep from to _ es h.0, keys-ranges low high from to rest h.1)

-- A range of what is gathered is what is gathered of the sources' ranges.
pub within-gather : (low high from to : ℕ) (sources : List (List Entry)) → AllKeys from to sources
    → within low high (gather sources) ≡ gather (map (within low high) sources)
unfolding within
within-gather low high from to sources h =
    keys-ext from to (within low high (gather sources)) (gather (map (within low high) sources))
    (keys-keep from to _ (gather sources) (keys-gather from to sources h))
    (keys-gather from to (map (within low high) sources) (keys-ranges low high from to sources h))
    (λ k. find-within k low high (gather sources)
    ∙ ap (λ o. cond (leb low k && leb k high) o none) (find-gather k sources)
    ∙ sym (find-ranges k low high sources)
    ∙ sym (find-gather k (map (within low high) sources)))

-- The first n of a range, gathered.
pub gathered-range : (n low high from to : ℕ) (sources : List (List Entry)) → AllKeys from to sources
    → gathered n (map (within low high) sources) ≡ take n (within low high (gather sources))
gathered-range n low high from to sources h =
    gathered-first n from to (map (within low high) sources) (keys-ranges low high from to sources h)
    ∙ ap (take n) (sym (within-gather low high from to sources h))
