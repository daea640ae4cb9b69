-- Spans: what is read of a table has keys in its span, and in a level spans rise, so that a key is read of one table at most.
use Prim.Native.Nat.{ℕ, suc, ◌≤◌, ◌<◌, ◌^◌}
use mathlib.Core.Path.{◌≡◌, refl, sym, ◌∙◌, ap}
use mathlib.Core.List.Memᴰ
use mathlib.Core.List.{List, [], ◌∷◌, ◌++◌, map, reverse, append_assoc, Memᴰ}
use mathlib.Core.Bool.{true}
use mathlib.Core.Option.{Option, some, none}
use mathlib.Core.Logic.{◌⊎◌, inl, inr, ⊎_elim}
use native.Mathlib.Omega.{arith}
use borrow.Author.Tests.{ltb-true, leb-true, leb-false, lt-ltb, lt-leb}
use lib.Dec.{leb, ltb}
use lib.ListN.{length}
use Rattle.table.specs.Entry.{Entry}
use Rattle.table.specs.Search.{find, least_key, greatest_key}
use Rattle.table.specs.Valid.{Keys}
use Rattle.ldc.specs.Lists.{flat}
use Rattle.ldc.specs.Store.{Link, Store, links, table, slice, sources, span_start, span_end, least_end, greatest_end}
use Rattle.ldc.specs.Rules.{spans_rise}
use Rattle.ldc.specs.Facts.{Spans}
use Rattle.ldc.proofs.Basics.Cases.{cases, both_left, both_right, both}
use Rattle.ldc.proofs.Entries.Finds.{or_else, or_else-assoc, find-append, find-within}
use Rattle.ldc.proofs.Entries.Keys.{find-below, find-above}
use Rattle.ldc.proofs.Basics.Replaced.{member-reverse}

-- ---- least and greatest own key

pub keys-tight : (low high : ℕ) (es : List Entry) → 1 ≤ length es → Keys low high es → Keys (least_key es) (suc (greatest_key es)) es
unfolding least_key greatest_key
keys-tight low high [] n h = absurd (omega arith)
keys-tight low high (e ∷ []) n h = (omega arith, omega arith)
keys-tight low high (e ∷ f ∷ es) n h =
    let r = keys-tight (suc e.key) high (f ∷ es) (omega arith) h.1 in
    (omega arith, (h.1.0, r.1))

pub least-greatest : (low high : ℕ) (es : List Entry) → 1 ≤ length es → Keys low high es → least_key es ≤ greatest_key es
unfolding least_key greatest_key
least-greatest low high [] n h = absurd (omega arith)
least-greatest low high (e ∷ []) n h = omega arith
least-greatest low high (e ∷ f ∷ es) n h =
    let r = least-greatest (suc e.key) high (f ∷ es) (omega arith) h.1 in
    omega (arith, h.1.0)

pub least-low : (low high : ℕ) (es : List Entry) → 1 ≤ length es → Keys low high es → low ≤ least_key es
unfolding least_key
least-low low high [] n h = absurd (omega arith)
least-low low high (e ∷ es) n h = h.0

pub greatest-high : (low high : ℕ) (es : List Entry) → 1 ≤ length es → Keys low high es → greatest_key es < high
unfolding greatest_key
greatest-high low high [] n h = absurd (omega arith)
greatest-high low high (e ∷ []) n h = h.1
greatest-high low high (e ∷ f ∷ es) n h = greatest-high (suc e.key) high (f ∷ es) (omega arith) h.1

-- ---- the ends of links

pub least_end-own : (k : ℕ) (ls : List Link) → least_end k ls ≤ k
least_end-own k [] = omega arith
least_end-own k (l ∷ ls) = omega (arith, least_end-own k ls)

pub greatest_end-own : (k : ℕ) (ls : List Link) → k ≤ greatest_end k ls
greatest_end-own k [] = omega arith
greatest_end-own k (l ∷ ls) = omega (arith, greatest_end-own k ls)

pub least_end-link : (k : ℕ) (ls : List Link) (l : Link) → Memᴰ l ls → least_end k ls ≤ l.low
least_end-link k [] l m = absurd (elim m [ ])
least_end-link k (x ∷ ls) l m =
    ⊎_elim (λ e. let q : l.low ≡ x.low = ap (λ y. y.low) e in omega arith)
    (λ t. omega (arith, least_end-link k ls l t)) (Memᴰ.cases_cons m)

pub greatest_end-link : (k : ℕ) (ls : List Link) (l : Link) → Memᴰ l ls → l.high ≤ greatest_end k ls
greatest_end-link k [] l m = absurd (elim m [ ])
greatest_end-link k (x ∷ ls) l m =
    ⊎_elim (λ e. let q : l.high ≡ x.high = ap (λ y. y.high) e in omega arith)
    (λ t. omega (arith, greatest_end-link k ls l t)) (Memᴰ.cases_cons m)

-- ---- what is read of a table

-- A table with at least one entry, keys rising.
pub record Readable (s : Store) (p : ℕ) : Type 0 where
  pub keys : Keys 0 (2 ^ 64) (table s p)
  pub some : 1 ≤ length (table s p)

find-slices : (s : Store) (k : ℕ) (ls : List Link) → ((l : Link) → Memᴰ l ls → find k (slice s l) ≡ none) → find k (flat (map (slice s) ls)) ≡ none
unfolding find
find-slices s k [] h = refl
find-slices s k (l ∷ ls) h =
    find-append k (slice s l) (flat (map (slice s) ls))
    ∙ rw (h l (Memᴰ.head refl)) (find-slices s k ls (λ x m. h x (Memᴰ.tail m)))

pub flat_append : (xs ys : List (List Entry)) → flat (xs ++ ys) ≡ flat xs ++ flat ys
flat_append [] ys = refl
flat_append (x ∷ xs) ys = ap (λ zs. x ++ zs) (flat_append xs ys) ∙ sym (append_assoc x (flat xs) (flat ys))

module _ (s : Store) (p : ℕ) (r : Readable s p) where
  pub span-order : span_start s p ≤ span_end s p
  unfolding span_start span_end
  span-order =
      omega (
        arith,
        least_end-own (least_key (table s p)) (links s p),
        greatest_end-own (greatest_key (table s p)) (links s p),
        least-greatest 0 (2 ^ 64) (table s p) r.some r.keys,
      )

  -- nothing is read outside the span
  pub read-outside : (k : ℕ) → (k < span_start s p) ⊎ (span_end s p < k) → find k (flat (sources s p)) ≡ none
  unfolding span_start span_end sources slice find
  read-outside k o =
      let own : Keys (least_key (table s p)) (suc (greatest_key (table s p))) (table s p) =
      keys-tight 0 (2 ^ 64) (table s p) r.some r.keys in
      let none-own : find k (table s p) ≡ none =
      ⊎_elim
      (λ b. find-below k (least_key (table s p)) (suc (greatest_key (table s p))) (table s p) own
      (omega (arith, least_end-own (least_key (table s p)) (links s p))))
      (λ a. find-above k (least_key (table s p)) (suc (greatest_key (table s p))) (table s p) own
      (omega (arith, greatest_end-own (greatest_key (table s p)) (links s p)))) o in
      let none-link : (l : Link) → Memᴰ l (links s p) → find k (slice s l) ≡ none = λ l m.
      find-within k l.low l.high (table s l.place)
      ∙ ⊎_elim
      (λ b. rw (lt-leb l.low k (omega (arith, least_end-link (least_key (table s p)) (links s p) l m))))
      (λ a. rw (lt-leb k l.high (omega (arith, greatest_end-link (greatest_key (table s p)) (links s p) l m)))
      (cases (leb l.low k) (λ q. rw q) (λ q. rw q))) o in
      ap (find k) (flat_append (map (slice s) (reverse (links s p))) (table s p ∷ []))
      ∙ find-append k (flat (map (slice s) (reverse (links s p)))) (flat (table s p ∷ []))
      ∙ rw (find-slices s k (reverse (links s p)) (λ l m. none-link l (member-reverse l (links s p) m)))
      (find-append k (table s p) [] ∙ rw none-own)

-- ---- a level

pub spans-rise : (s : Store) (low : ℕ) (ps : List ℕ) → Spans s low ps → spans_rise s ps ≡ true
spans-rise s low [] h = refl
spans-rise s low (p ∷ []) h = refl
spans-rise s low (p ∷ q ∷ ps) h =
    both (ltb (span_end s p) (span_start s q)) (spans_rise s (q ∷ ps)) (lt-ltb (span_end s p) (span_start s q) h.2.0)
    (spans-rise s (suc (span_end s p)) (q ∷ ps) h.2)

pub rise-spans : (s : Store) (low : ℕ) (p : ℕ) (ps : List ℕ) → low ≤ span_start s p → ((q : ℕ) → Memᴰ q (p ∷ ps) → Readable s q)
    → spans_rise s (p ∷ ps) ≡ true → Spans s low (p ∷ ps)
rise-spans s low p [] l r h = (l, span-order s p (r p (Memᴰ.head refl)), tt)
rise-spans s low p (q ∷ ps) l r h = (
  l,
  span-order s p (r p (Memᴰ.head refl)),
  rise-spans s (suc (span_end s p)) q ps
      (ltb-true (span_end s p) (span_start s q) (both_left (ltb (span_end s p) (span_start s q)) (spans_rise s (q ∷ ps)) h))
      (λ x m. r x (Memᴰ.tail m))
      (both_right (ltb (span_end s p) (span_start s q)) (spans_rise s (q ∷ ps)) h),
)

pub rise-all : (s : Store) (ps : List ℕ) → ((q : ℕ) → Memᴰ q ps → Readable s q) → spans_rise s ps ≡ true → Spans s 0 ps
rise-all s [] r h = tt
rise-all s (p ∷ ps) r h = rise-spans s 0 p ps (omega arith) r h

pub spans-lower : (s : Store) (low low' : ℕ) (ps : List ℕ) → low' ≤ low → Spans s low ps → Spans s low' ps
spans-lower s low low' [] l h = tt
spans-lower s low low' (p ∷ ps) l h = (omega (arith, h.0), h.1, h.2)

-- One of the tables taken out.
pub spans-without : (s : Store) (low : ℕ) (xs : List ℕ) (p : ℕ) (ys : List ℕ) → Spans s low (xs ++ (p ∷ ys)) → Spans s low (xs ++ ys)
spans-without s low [] p ys h = spans-lower s (suc (span_end s p)) low ys (omega (arith, h.0, h.1)) h.2
spans-without s low (x ∷ xs) p ys h = (h.0, h.1, spans-without s (suc (span_end s x)) xs p ys h.2)

-- The tables from one of them on.
pub spans-from : (s : Store) (low : ℕ) (xs : List ℕ) (p : ℕ) (ys : List ℕ) → Spans s low (xs ++ (p ∷ ys)) → Spans s (span_start s p) (p ∷ ys)
spans-from s low [] p ys h = (omega arith, h.1, h.2)
spans-from s low (x ∷ xs) p ys h = spans-from s (suc (span_end s x)) xs p ys h.2

-- ---- what is read of a level

abbrev pub reads : Store → List ℕ → List Entry
reads s [] = []
reads s (p ∷ ps) = flat (sources s p) ++ reads s ps

pub reads-flat : (s : Store) (ps : List ℕ) → flat (flat (map (sources s) ps)) ≡ reads s ps
reads-flat s [] = refl
reads-flat s (p ∷ ps) = flat_append (sources s p) (flat (map (sources s) ps)) ∙ ap (λ es. flat (sources s p) ++ es) (reads-flat s ps)

pub find-reads : (s : Store) (k : ℕ) (xs ys : List ℕ) → find k (reads s (xs ++ ys)) ≡ or_else (find k (reads s xs)) (find k (reads s ys))
unfolding find
find-reads s k [] ys = refl
find-reads s k (x ∷ xs) ys =
    find-append k (flat (sources s x)) (reads s (xs ++ ys))
    ∙ ap (or_else (find k (flat (sources s x)))) (find-reads s k xs ys)
    ∙ sym (or_else-assoc (find k (flat (sources s x))) (find k (reads s xs)) (find k (reads s ys)))
    ∙ ap (λ o. or_else o (find k (reads s ys))) (sym (find-append k (flat (sources s x)) (reads s xs)))

-- below the first span nothing is read
pub reads-below : (s : Store) (k low : ℕ) (ps : List ℕ) → ((q : ℕ) → Memᴰ q ps → Readable s q) → Spans s low ps → k < low → find k (reads s ps) ≡ none
unfolding find
reads-below s k low [] r h l = refl
reads-below s k low (p ∷ ps) r h l =
    find-append k (flat (sources s p)) (reads s ps)
    ∙ rw (read-outside s p (r p (Memᴰ.head refl)) k (inl (omega (arith, h.0))))
    (reads-below s k (suc (span_end s p)) ps (λ q m. r q (Memᴰ.tail m)) h.2 (omega (arith, h.0, h.1)))

-- a key that is read of a table is not read of those behind it
pub reads-apart : (s : Store) (k low p : ℕ) (ps : List ℕ) → ((q : ℕ) → Memᴰ q (p ∷ ps) → Readable s q) → Spans s low (p ∷ ps)
    → (find k (flat (sources s p)) ≡ none) ⊎ (find k (reads s ps) ≡ none)
reads-apart s k low p ps r h =
    cases (leb k (span_end s p))
    (λ q. inr (reads-below s k (suc (span_end s p)) ps (λ x m. r x (Memᴰ.tail m)) h.2 (omega (arith, leb-true k (span_end s p) q))))
    (λ q. inl (read-outside s p (r p (Memᴰ.head refl)) k (inr (leb-false k (span_end s p) q))))

-- what is not in both may be read in either order
pub or_else-swap : (a b c : Option Entry) → (a ≡ none) ⊎ (b ≡ none) → or_else a (or_else b c) ≡ or_else b (or_else a c)
or_else-swap a b c (inl e) = rw e
or_else-swap a b c (inr e) = rw e
