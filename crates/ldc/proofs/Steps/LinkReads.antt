-- What is read below after a link: the chosen table's entries, cut into the ranges, are met just before the tables that they hang on.
-- By induction on the tables below, from a key on: what lies behind a table's span is not read of it, so the rest of the entries passes it by.
use Prim.Native.Nat.{ℕ, suc, ◌≤◌, ◌<◌, ◌^◌}
use mathlib.Core.Path.{◌≡◌, refl, ◌∙◌, ap, ap₂}
use mathlib.Core.List.{List, [], ◌∷◌, ◌++◌, map, reverse, reverse-append, append-nil, Memᴰ}
use mathlib.Core.Bool.{cond}
use mathlib.Core.Option.{none}
use mathlib.Core.Logic.{inr}
use native.Mathlib.Omega.{arith}
use borrow.Author.Tests.{leb-true, leb-false, le-leb, lt-leb}
use lib.Dec.{leb}
use Rattle.table.specs.Entry.{Entry}
use Rattle.table.specs.Search.{find}
use Rattle.table.specs.Valid.{Keys}
use Rattle.ldc.specs.Lists.{flat, is_empty}
use Rattle.ldc.specs.Store.{Link, Store, links, table, bytes_at, slice, sources, within, span_end}
use Rattle.ldc.specs.Tidy.{greatest}
use Rattle.ldc.proofs.Basics.Cases.{cases}
use Rattle.ldc.proofs.Basics.ListLaws.{empty-list}
use Rattle.ldc.proofs.Entries.Finds.{or_else, or_else-assoc, find-append, find-within}
use Rattle.ldc.proofs.Entries.Keys.{find-above}
use Rattle.ldc.proofs.Steps.Ranges.{new_link, gained, Assigned}
use Rattle.ldc.proofs.Stores.Spans.{Readable, reads, read-outside}
use Rattle.ldc.specs.Facts.{Spans}

module _ (s s' : Store) (same : s'.places ≡ s.places) (p : ℕ) where
  table_kept : (q : ℕ) → table s' q ≡ table s q
  unfolding table bytes_at
  table_kept q = rw same

  slice_kept : (l : Link) → slice s' l ≡ slice s l
  unfolding slice
  slice_kept l = rw (table_kept l.place)

  slices-kept : (ls : List Link) → map (slice s') ls ≡ map (slice s) ls
  slices-kept [] = refl
  slices-kept (l ∷ ls) = ap₂ (λ (x : List Entry) (xs : List (List Entry)). x ∷ xs) (slice_kept l) (slices-kept ls)

  slice-new : (from to : ℕ) → slice s' (new_link (table s p) p from to) ≡ within from to (table s p)
  unfolding slice
  slice-new from to = rw (table_kept p)

  -- the new slice is met first
  gained-sources : (k q from to : ℕ) → links s' q ≡ links s q ++ gained (table s p) p from to
      → find k (flat (sources s' q)) ≡ or_else (find k (within from to (table s p))) (find k (flat (sources s q)))
  unfolding sources find
  gained-sources k q from to e =
      cases (is_empty (within from to (table s p)))
      (λ y. let z : within from to (table s p) ≡ [] = empty-list (within from to (table s p)) y in
      let e' : links s' q ≡ links s q = rw y at e ∙ append-nil (links s q) in
      rw (z, e', slices-kept (reverse (links s q)), table_kept q))
      (λ y. let l : Link = new_link (table s p) p from to in
      let e' : links s' q ≡ links s q ++ (l ∷ []) = rw y at e in
      let c : slice s' l ≡ within from to (table s p) = slice-new from to in
      rw (e', reverse-append (links s q) (l ∷ []), slices-kept (reverse (links s q)), table_kept q, c)
      (find-append k (within from to (table s p)) (flat (map (slice s) (reverse (links s q)) ++ (table s q ∷ [])))))

  module _ (keys : Keys 0 (2 ^ 64) (table s p)) where
    -- the entries from a key on
    pub find-from : (k from : ℕ) → find k (within from greatest (table s p)) ≡ cond (leb from k) (find k (table s p)) none
    find-from k from =
        find-within k from greatest (table s p)
        ∙ cases (leb k greatest)
        (λ q. cases (leb from k) (λ t. rw (t, q)) (λ t. rw (t)))
        (λ q. let z : find k (table s p) ≡ none = find-above k 0 (2 ^ 64) (table s p) keys (omega (arith, leb-false k greatest q)) in
        cases (leb from k) (λ t. rw (t, q, z)) (λ t. rw (t)))

    -- from a key on
    pub link-reads : (k from q : ℕ) (qs : List ℕ) (gain : ℕ → List Link)
        → ((x : ℕ) → Memᴰ x (q ∷ qs) → Readable s x)
        → ((x : ℕ) → Memᴰ x (q ∷ qs) → links s' x ≡ links s x ++ gain x)
        → Spans s from (q ∷ qs) → Assigned s gain (table s p) p from (q ∷ qs)
        → find k (reads s' (q ∷ qs)) ≡ or_else (find k (within from greatest (table s p))) (find k (reads s (q ∷ qs)))
    link-reads k from q [] gain r g sp a =
        rw (append-nil (flat (sources s' q)), append-nil (flat (sources s q)))
        (gained-sources k q from greatest (g q (Memᴰ.head refl) ∙ ap (λ (ls : List Link). links s q ++ ls) a))
    link-reads k from q (x ∷ qs) gain r g sp a =
        let end = span_end s q in
        let e = find k (table s p) in
        let f = find k (flat (sources s q)) in
        let rest = find k (reads s (x ∷ qs)) in
        let here = gained-sources k q from end (g q (Memᴰ.head refl) ∙ ap (λ (ls : List Link). links s q ++ ls) a.0) in
        let later = link-reads k (suc end) x qs gain (λ y m. r y (Memᴰ.tail m)) (λ y m. g y (Memᴰ.tail m)) sp.2 a.1 in
        find-append k (flat (sources s' q)) (reads s' (x ∷ qs))
        ∙ ap₂ or_else here later
        ∙ cases (leb k end)
        (λ y. let t : k ≤ end = leb-true k end y in
        rw (find-within k from end (table s p), find-from k from, find-from k (suc end), y, lt-leb (suc end) k (omega arith), find-append k (flat (sources s q)) (reads s (x ∷ qs)))
        (cases (leb from k) (λ z. rw z (or_else-assoc e f rest)) (λ z. rw z)))
        (λ y. let t : end < k = leb-false k end y in
        let out : f ≡ none = read-outside s q (r q (Memᴰ.head refl)) k (inr t) in
        rw (
          find-within k from end (table s p),
          find-from k from,
          find-from k (suc end),
          y,
          le-leb (suc end) k (omega arith),
          le-leb from k (omega (arith, sp.0, sp.1)),
          find-append k (flat (sources s q)) (reads s (x ∷ qs)),
          out,
        ))
