-- Every request keeps the slice list and the store in step: a link adds to both at the end, a merge takes from both what hangs on its place.
use Prim.Native.Nat.{ℕ, ◌≤◌}
use mathlib.Core.Path.{◌≡◌, refl, sym, ◌∙◌, ap, ap₂}
use mathlib.Core.List.Memᴰ
use mathlib.Core.List.{List, [], ◌∷◌, ◌++◌, map, Memᴰ}
use mathlib.Core.Bool.{false, not, ◌&&◌, ◌||◌}
use mathlib.Core.Option.{some, none}
use mathlib.Core.Logic.{⊎_elim}
use native.Mathlib.Omega.{arith}
use borrow.Author.Tests.{eqb-true, eqb-false, eq-eqb, ne_eqb}
use lib.Dec.{ltb, eqb}
use lib.ListN.{length, get_or}
use Rattle.table.specs.Entry.{Entry}
use Rattle.table.specs.Limits.{table_limit}
use Rattle.table.specs.Search.{find}
use Rattle.ldc.specs.Lists.{keep, is_empty, is_some}
use Rattle.ldc.specs.Store.{Link, Store, card, links, bytes_at, table, level}
use Rattle.ldc.specs.Request.{Request, Served, known, body_good, key_in, high_in, value_in, only}
use Rattle.ldc.specs.Memtable.{serve_put}
use Rattle.ldc.specs.Place.{free_places, flushed, serve_flush}
use Rattle.ldc.specs.Read.{look_up, serve_look_up, serve_scan, serve_report}
use Rattle.ldc.specs.Probe.{serve_probe}
use Rattle.ldc.specs.Tidy.{Slice, Step, idle, refused, moved, linked, merged, tidy_step, slices_of, merged_tables}
use Rattle.ldc.specs.Steps.{step_served, serve_tidy, link_to, do_link, do_merge}
use Rattle.ldc.specs.Serve.{serve}
use Rattle.ldc.specs.History.{Unmerged, hangs_on, link_of, step_of, after_step}
use Rattle.ldc.proofs.Steps.Apart.{keep_append}
use Rattle.ldc.proofs.Basics.Cases.{cases, clash}
use Rattle.ldc.proofs.Stores.CardFacts.{frozen-not-free}
use Rattle.ldc.proofs.Steps.Flush.{flush-links, flush-bytes}
use Rattle.ldc.proofs.Stores.Hang.{gains}
use Rattle.ldc.proofs.Serving.Keeps.{some-length, look-store}
use Rattle.ldc.proofs.Steps.LinkShape.{link-links, link-places}
use Rattle.ldc.proofs.Steps.MergeShape.{merge-links, merge-gone, merge-kept}
use Rattle.ldc.proofs.Steps.Move.{move-links, move-bytes}
use Rattle.ldc.proofs.Serving.ServeCases.{serve-cases}
use Rattle.ldc.proofs.Demand.Slices.{Tracks, slice-frozen, same-tracks}
use Rattle.ldc.proofs.Stores.Sound.{Sound}
use Rattle.ldc.proofs.Steps.StepFacts.{keep-member, slice-member, step-moved, step-linked, step-merged}
use Rattle.ldc.proofs.Stores.Written.{member-map}

-- ---- link

-- The slices of a link, with the bytes that the place held.
abbrev added : Store → ℕ → List Slice → List Unmerged
added s p xs = map (λ x. record { slice = x; held = bytes_at s p }) xs

added-links : (s : Store) (p q : ℕ) (xs : List Slice) → map link_of (keep (hangs_on q) (added s p xs)) ≡ gains (table s p) q xs
unfolding table
added-links s p q [] = refl
added-links s p q (x ∷ xs) =
    cases (eqb x.on q)
    (λ e. rw e (ap (λ (ls : List Link). link_to (table s p) x ∷ ls) (added-links s p q xs)))
    (λ e. rw e (added-links s p q xs))

map-append : (xs ys : List Unmerged) → map link_of (xs ++ ys) ≡ map link_of xs ++ map link_of ys
map-append [] ys = refl
map-append (x ∷ xs) ys = ap (λ (ls : List Link). link_of x ∷ ls) (map-append xs ys)

module _ (s : Store) (S : Sound s) (us : List Unmerged) (T : Tracks s us) where
  link-bytes : (n p : ℕ) → Memᴰ p (level s n) → links s p ≡ [] → (q : ℕ) → bytes_at (do_link n p (slices_of s n p) s) q ≡ bytes_at s q
  unfolding bytes_at
  link-bytes n p m bare q = ap (λ (bs : List (List ℕ)). get_or bs q []) (link-places s S n p m bare)

  link-tracks : (n p : ℕ) → Memᴰ p (level s n) → links s p ≡ [] → Tracks (do_link n p (slices_of s n p) s) (us ++ added s p (slices_of s n p))
  link-tracks n p m bare =
      let same : (q : ℕ) → bytes_at (do_link n p (slices_of s n p) s) q ≡ bytes_at s q = link-bytes n p m bare in
      record {
        carried = λ q. link-links s S n p m bare q
            ∙ ap₂ (λ (xs ys : List Link). xs ++ ys) (T.carried q) (sym (added-links s p q (slices_of s n p)))
            ∙ sym (ap (map link_of) (keep_append (hangs_on q) us (added s p (slices_of s n p))) ∙ map-append (keep (hangs_on q) us) (keep (hangs_on q) (added s p (slices_of s n p))));
        kept = λ u h. ⊎_elim
            (λ o. same u.slice.place ∙ T.kept u o)
            (λ a. let w = member-map (λ (x : Slice). record { slice = x; held = bytes_at s p }) u (slices_of s n p) a in
            same u.slice.place
            ∙ ap (bytes_at s) (ap (λ (v : Unmerged). v.slice.place) w.1.1 ∙ (slice-member s n p w.0 w.1.0).0)
            ∙ ap (λ (v : Unmerged). v.held) (sym w.1.1))
            (Memᴰ.append_cases us h);
      }

  -- ---- merge

  keep-others : (p q : ℕ) → (q ≡ p → ⊥) → (xs : List Unmerged) → keep (hangs_on q) (keep (λ u. not (hangs_on p u)) xs) ≡ keep (hangs_on q) xs
  keep-others p q d [] = refl
  keep-others p q d (x ∷ xs) =
      cases (eqb x.slice.on p)
      (λ e. let z : eqb x.slice.on q ≡ false = ne_eqb x.slice.on q (λ y. d (sym y ∙ eqb-true x.slice.on p e)) in rw (e, z) (keep-others p q d xs))
      (λ e. rw e (cases (eqb x.slice.on q)
      (λ t. rw t (ap (λ (ys : List Unmerged). x ∷ ys) (keep-others p q d xs)))
      (λ t. rw t (keep-others p q d xs))))

  keep-gone : (p : ℕ) (xs : List Unmerged) → keep (hangs_on p) (keep (λ u. not (hangs_on p u)) xs) ≡ []
  keep-gone p [] = refl
  keep-gone p (x ∷ xs) = cases (eqb x.slice.on p) (λ e. rw e (keep-gone p xs)) (λ e. rw e (rw e (keep-gone p xs)))

  merge-tracks : (n p : ℕ) (m : Memᴰ p (level s n)) → length (merged_tables s n p) ≤ free_places s → Tracks (do_merge n p s) (keep (λ u. not (hangs_on p u)) us)
  merge-tracks n p m room = record {
    carried = λ q. cases (eqb q p)
        (λ e. let qp : q ≡ p = eqb-true q p e in rw qp (merge-gone s S n p m room ∙ sym (ap (map link_of) (keep-gone p us))))
        (λ e. let d : q ≡ p → ⊥ = eqb-false q p e in
        merge-links s S n p m room q d ∙ T.carried q ∙ ap (map link_of) (sym (keep-others p q d us)));
    kept = λ u h. let o = (keep-member (λ x. not (hangs_on p x)) us u h).0 in
        merge-kept s S n p m room u.slice.place (frozen-not-free (card s u.slice.place) (slice-frozen s us T S u o)) ∙ T.kept u o;
  }

  -- ---- every step and request

  tidy-tracks : Tracks (serve_tidy s).store (after_step s (tidy_step s) us)
  unfolding serve_tidy
  tidy-tracks = step-tracks (tidy_step s) refl
    where
      step-tracks : (t : Step) → tidy_step s ≡ t → Tracks (step_served t s).store (after_step s t us)
      step-tracks idle e = T
      step-tracks refused e = T
      step-tracks (moved n p) e =
          let f = step-moved s S n p e in
          let c = f.chosen in
          same-tracks s us T S (step_served (moved n p) s).store
          (move-links s S n p c.highest c.on c.bare f.empty) (λ q _. move-bytes s S n p c.highest c.on c.bare f.empty q)
      step-tracks (linked n p xs) e =
          let f = step-linked s S n p xs e in
          rw f.slices (link-tracks n p f.chosen.on f.chosen.bare)
      step-tracks (merged n p) e =
          let f = step-merged s S n p e in merge-tracks n p f.merging.on f.room

  put-tracks : (e : Entry) → Tracks (serve_put s e).store us
  unfolding serve_put links card bytes_at
  put-tracks e =
      cases (is_some (find e.key s.memory) || ltb (length s.memory) table_limit)
      (λ q. rw q (record { carried = T.carried; kept = T.kept }))
      (λ q. rw q T)

  flush-tracks : Tracks (serve_flush s).store us
  unfolding serve_flush
  flush-tracks =
      cases (is_empty s.memory)
      (λ q. rw q T)
      (λ q. cases (eqb (free_places s) 0)
      (λ t. rw (q, t) T)
      (λ t. let d = eqb-false (free_places s) 0 t in
      let n = some-length s.memory q in
      rw (q, t) (same-tracks s us T S (flushed s) (flush-links s S n (omega arith)) (flush-bytes s S n (omega arith)))))

  module _ (r : Request) where
    abbrev After : Served → Type 0
    After v = Tracks v.store (after_step s (step_of s r) us)

    -- no other request does a step
    no_step : (v : Served) → (eqb r.kind 6 && eqb (length r.body) 0) ≡ false → Tracks v.store us → After v
    unfolding step_of
    no_step v e t = rw e t

    no_kind : (v : Served) (n : ℕ) → r.kind ≡ n → eqb n 6 ≡ false → Tracks v.store us → After v
    no_kind v n e z t = no_step v (rw (e, z)) t

    unknown-step : known r.kind ≡ false → (eqb r.kind 6 && eqb (length r.body) 0) ≡ false
    unfolding known
    unknown-step k = cases (eqb r.kind 6) (λ q. let e : r.kind ≡ 6 = eqb-true r.kind 6 q in clash (rw e) k) (λ q. rw q)

    misfit-step : body_good r.kind (length r.body) ≡ false → (eqb r.kind 6 && eqb (length r.body) 0) ≡ false
    unfolding body_good
    misfit-step k = cases (eqb r.kind 6) (λ q. let e : r.kind ≡ 6 = eqb-true r.kind 6 q in rw e (rw e at k)) (λ q. rw q)

    tidy-after : r.kind ≡ 6 → length r.body ≡ 0 → After (serve_tidy s)
    unfolding step_of
    tidy-after k n = rw (eq-eqb r.kind 6 k, eq-eqb (length r.body) 0 n) tidy-tracks

    pub tracks-keep : Tracks (serve s r).store (after_step s (step_of s r) us)
    tracks-keep = serve-cases s r After (record {
      unknown = λ k. no_step (only 16 s) (unknown-step k) T;
      misfit = λ k b. no_step (only 17 s) (misfit-step b) T;
      put = λ k lo hi. no_kind (serve_put s (record { key = key_in r.body; value = some (value_in r.body) })) 1 k refl (put-tracks (record { key = key_in r.body; value = some (value_in r.body) }));
      delete = λ k n. no_kind (serve_put s (record { key = key_in r.body; value = none })) 2 k refl (put-tracks (record { key = key_in r.body; value = none }));
      look = λ k n. no_kind (serve_look_up s (key_in r.body)) 3 k refl (unfold serve_look_up in rw (look-store s (look_up s (key_in r.body))) T);
      scan = λ k n. no_kind (serve_scan s (key_in r.body) (high_in r.body)) 4 k refl
          (unfold serve_scan in cases (ltb (high_in r.body) (key_in r.body)) (λ q. rw q T) (λ q. rw q T));
      flush = λ k n. no_kind (serve_flush s) 5 k refl flush-tracks;
      tidy = tidy-after;
      probe = λ k n. no_kind (serve_probe s (key_in r.body)) 8 k refl (unfold serve_probe in T);
      report = λ k n. no_kind (serve_report s) 7 k refl (unfold serve_report in T);
    })
