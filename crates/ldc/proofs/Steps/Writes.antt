-- How much a step writes: a tidy at most nine places, whatever the store's size, and a flush one. All other places' bytes are as they were.
-- A place written is one place changed at most; a merge has at most nine sources of sixteen entries, so that nine tables come out.
use Prim.Native.Nat.{ℕ, zero, suc, ◌+◌, ◌≤◌}
use mathlib.Core.Path.{◌≡◌, refl}
use mathlib.Core.Bool.{true}
use mathlib.Core.List.{List, [], ◌∷◌, map, reverse, Memᴰ}
use native.Mathlib.Omega.{arith}
use borrow.Author.Tests.{eq-eqb}
use lib.Dec.{eqb}
use lib.ListN.{length, set, length-append, length-map, length-reverse}
use Rattle.table.specs.Entry.{Entry}
use Rattle.table.specs.Table.{table_bytes}
use Rattle.ldc.specs.Lists.{is_empty}
use Rattle.ldc.specs.Store.{Link, Store, card, links, level, table, slice, sources}
use Rattle.ldc.specs.Place.{place_taken, written, written_all, free_places, flushed, serve_flush}
use Rattle.ldc.specs.Read.{gather}
use Rattle.ldc.specs.Tidy.{Slice, comes_out, merged_entries, merged_tables, slices_of}
use Rattle.ldc.specs.Steps.{leaves, do_move, do_link, do_merge, serve_tidy, same_bytes, places_changed}
use Rattle.ldc.proofs.Basics.Cases.{cases}
use Rattle.ldc.proofs.Basics.Replaced.{member-reverse}
use Rattle.ldc.proofs.Entries.Cut.{cut-few}
use Rattle.ldc.proofs.Entries.Few.{keep-few, AllValid, gather-few, valid-append, valid-within}
use Rattle.ldc.proofs.Stores.CardFacts.{live-not-free, frozen-not-free}
use Rattle.ldc.proofs.Stores.Facts.{listed-live, link-frozen, table-valid}
use Rattle.ldc.proofs.Stores.Hang.{hang-beside}
use Rattle.ldc.proofs.Stores.Release.{release-beside}
use Rattle.ldc.proofs.Stores.Sound.{Sound}
use Rattle.ldc.proofs.Stores.SoundRules.{threshold-eight}
use Rattle.ldc.proofs.Steps.StepFacts.{tidy-cases, merge-cases, down-cases}

-- ---- places changed

same_self : (xs : List ℕ) → same_bytes xs xs ≡ true
same_self [] = refl
same_self (x ∷ xs) = rw (eq-eqb x x refl, same_self xs)

changed-none : (ps : List (List ℕ)) → places_changed ps ps ≡ 0
changed-none [] = refl
changed-none (p ∷ ps) = rw (same_self p, changed-none ps)

-- One place written is one changed at most.
changed-set : (xs ys : List (List ℕ)) (p : ℕ) (b : List ℕ) → places_changed xs (set ys p b) ≤ suc (places_changed xs ys)
changed-set xs [] p b = omega arith
changed-set [] (y ∷ ys) zero b = omega arith
changed-set [] (y ∷ ys) (suc p) b = omega (arith, changed-set [] ys p b)
changed-set (x ∷ xs) (y ∷ ys) zero b =
    cases (same_bytes x b)
    (λ q. cases (same_bytes x y) (λ r. rw (q, r) (omega arith)) (λ r. rw (q, r) (omega arith)))
    (λ q. cases (same_bytes x y) (λ r. rw (q, r) (omega arith)) (λ r. rw (q, r) (omega arith)))
changed-set (x ∷ xs) (y ∷ ys) (suc p) b =
    let r = changed-set xs ys p b in
    cases (same_bytes x y) (λ q. rw q (omega arith)) (λ q. rw q (omega arith))

changed-written : (xs : List (List ℕ)) (es : List Entry) (s : Store) → places_changed xs (written es s).places ≤ suc (places_changed xs s.places)
unfolding written
changed-written xs es s = changed-set xs s.places (place_taken s) (table_bytes es)

changed-all : (xs : List (List ℕ)) (ts : List (List Entry)) (s : Store) → places_changed xs (written_all ts s).places ≤ places_changed xs s.places + length ts
changed-all xs [] s = omega arith
changed-all xs (t ∷ ts) s = omega (arith, changed-all xs ts (written t s), changed-written xs t s)

-- ---- how many tables come out of a merge

module _ (s : Store) (S : Sound s) (n p : ℕ) (m : Memᴰ p (level s n)) where
  slices-valid : (ls : List Link) → ((l : Link) → Memᴰ l ls → Memᴰ l (links s p)) → AllValid (map (slice s) ls)
  unfolding slice
  slices-valid [] h = tt
  slices-valid (l ∷ ls) h =
      let o = frozen-not-free (card s l.place) (link-frozen s S p l (h l (Memᴰ.head refl))) in
      (valid-within l.low l.high (table s l.place) (table-valid s S l.place o), slices-valid ls (λ x t. h x (Memᴰ.tail t)))

  sources-valid : AllValid (sources s p)
  unfolding sources
  sources-valid =
      valid-append (map (slice s) (reverse (links s p))) (table s p ∷ [])
      (slices-valid (reverse (links s p)) (λ l x. member-reverse l (links s p) x))
      (table-valid s S p (live-not-free (card s p) (listed-live s S n p m)), tt)

  sources-few : length (sources s p) ≤ 9
  unfolding sources
  sources-few =
      omega (
        arith,
        length-append (map (slice s) (reverse (links s p))) (table s p ∷ []),
        length-map (reverse (links s p)) (slice s),
        length-reverse (links s p),
        S.few p,
        threshold-eight s S.rule_a-kept,
      )

  -- At most nine.
  pub merged-few : length (merged_tables s n p) ≤ 9
  unfolding merged_tables merged_entries
  merged-few =
      omega (
        arith,
        cut-few (merged_entries s n p),
        keep-few (comes_out s n) (gather (sources s p)),
        gather-few (sources s p) sources-valid,
        sources-few,
      )

-- ---- what each step leaves of the places

module _ (s : Store) where
  places-moved : (n p : ℕ) → (do_move n p s).places ≡ s.places
  unfolding do_move leaves
  places-moved n p = refl

  places-linked : (n p : ℕ) (rs : List Slice) → (do_link n p rs s).places ≡ s.places
  unfolding do_link leaves
  places-linked n p rs = (hang-beside _ rs _).same-places

  places-merged : (n p : ℕ) → (do_merge n p s).places ≡ (written_all (merged_tables s n p) s).places
  unfolding do_merge
  places-merged n p = (release-beside (map (λ l. l.place) (links s p)) _).same-places

-- ---- the statements

-- A tidy writes at most nine places.
pub tidy-writes : (s : Store) → Sound s → places_changed s.places (serve_tidy s).store.places ≤ 9
unfolding serve_tidy
tidy-writes s S =
    tidy-cases s S
    (λ e. rw (e, changed-none s.places) (omega arith))
    (λ n p g e. merge-cases s n p
    (λ room f. rw (e, f, places-merged s n p)
    (omega (arith, changed-all s.places (merged_tables s n p) s, changed-none s.places, merged-few s S n p g.on)))
    (λ f. rw (e, f, changed-none s.places) (omega arith)))
    (λ n p g e. down-cases s n p
    (λ empty f. rw (e, f, places-moved s n p, changed-none s.places) (omega arith))
    (λ filled f. rw (e, f, places-linked s n p (slices_of s n p), changed-none s.places) (omega arith)))

-- A flush writes at most one.
pub flush-writes : (s : Store) → places_changed s.places (serve_flush s).store.places ≤ 1
unfolding serve_flush flushed
flush-writes s =
    cases (is_empty s.memory)
    (λ q. rw (q, changed-none s.places) (omega arith))
    (λ q. cases (eqb (free_places s) 0)
    (λ r. rw (q, r, changed-none s.places) (omega arith))
    (λ r. rw (q, r) (omega (arith, changed-written s.places s.memory s, changed-none s.places))))
