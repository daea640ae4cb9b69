-- A link keeps a store sound. The chosen table was named by none, so that its new links meet no old ones; its entries lie in the ranges, so that
-- at least one table gains.
use Prim.Native.Nat.{ℕ, zero, suc, ◌≤◌, ◌<◌}
use mathlib.Core.Path.{◌≡◌, refl, sym, ◌∙◌, ap}
use mathlib.Core.List.Memᴰ
use mathlib.Core.List.{List, [], ◌∷◌, ◌++◌, append-nil, Memᴰ}
use mathlib.Core.Bool.{Bool, true, false, cond, not}
use mathlib.Core.Logic.{⊎_elim}
use native.Mathlib.Omega.{arith}
use borrow.Author.Tests.{eq-eqb, eqb-true, eqb-false, le-leb}
use lib.Dec.{eqb}
use lib.ListN.{length, set, length-set, length-append}
use Rattle.table.specs.Entry.{Entry}
use Rattle.ldc.specs.Lists.{how_many, keep, is_empty, flat}
use Rattle.ldc.specs.Store.{Link, Store, size, card, links, is_free, is_live, is_frozen, bytes_at, table, level, slice, within}
use Rattle.ldc.specs.Rules.{Hung, times_listed, link_good, hung_on, all_apart, named, spans_rise}
use Rattle.ldc.specs.Tidy.{slices_of}
use Rattle.ldc.specs.Steps.{replaced, do_link}
use Rattle.ldc.proofs.Steps.Apart.{keep_append, apart-sorts, apart-places, new_in, new_apart}
use Rattle.ldc.proofs.Basics.Cases.{cases, clash}
use Rattle.ldc.proofs.Stores.CardFacts.{live-not-free, live-not-frozen}
use Rattle.ldc.proofs.Basics.Counts.{one, total-set, how_many-flat, member-or-not}
use Rattle.ldc.proofs.Stores.Facts.{rule_a-of, cursor-sound, threshold-sound, listed-total, listed-live, listed-once, level-spans, link-frozen, table-readable}
use Rattle.ldc.proofs.Stores.Frame.{hung_in, spans_rise-same, table_same}
use Rattle.ldc.proofs.Stores.Hang.{gains}
use Rattle.ldc.proofs.Steps.LinkApart.{names, keep-new, keep-old, new_in-none}
use Rattle.ldc.proofs.Steps.LinkShape.{gains-none, link-links, link-chosen, link-kind, link-size, link-marks, link-threshold, link-cursor, link-memory, link-places, link-bytes, link-elsewhere, link-levels, link-from, link-other, link-assigned}
use Rattle.ldc.proofs.Steps.LinkSpans.{range-order, link-spans, assigned-at, any-gains, all-range}
use Rattle.ldc.proofs.Steps.Move.{replaced-member, at_level, hung_in-bare}
use Rattle.ldc.proofs.Stores.Naming.{named-intro, named-elim, agree}
use Rattle.ldc.proofs.Steps.Ranges.{new_link, gained, Assigned}
use Rattle.ldc.proofs.Basics.Replaced.{split, replaced-counted}
use Rattle.ldc.proofs.Stores.Sound.{Sound, TablePlace}
use Rattle.ldc.proofs.Steps.StepFacts.{slice-member}
use Rattle.ldc.proofs.Stores.Spans.{spans-rise, spans-without}
use Rattle.ldc.specs.Facts.{Spans}

module _ (s : Store) (S : Sound s) (n p : ℕ) (below : n ≤ 2) (m : Memᴰ p (level s n)) (bare : links s p ≡ [])
    (some_below : is_empty (level s (suc n)) ≡ false) (undue : (q : ℕ) → Memᴰ q (level s (suc n)) → length (links s q) < s.threshold) where
  after : Store
  after = do_link n p (slices_of s n p) s

  gain : ℕ → List Link
  gain q = gains (table s p) q (slices_of s n p)

  p-live : is_live (card s p) ≡ true
  p-live = listed-live s S n p m

  -- ---- cards and bytes

  same_bytes : (q : ℕ) → bytes_at after q ≡ bytes_at s q
  unfolding after
  same_bytes q = link-bytes s S n p m bare q

  same-slice : (l : Link) → slice after l ≡ slice s l
  unfolding slice table
  same-slice l = rw (same_bytes l.place)

  same-frozen : (q : ℕ) → (q ≡ p → ⊥) → is_frozen (card after q) ≡ is_frozen (card s q)
  unfolding after
  same-frozen q d = link-kind s S n p m bare is_frozen (λ _ _. refl) q d

  free-same : (q : ℕ) → (q ≡ p → ⊥) → is_free (card after q) ≡ is_free (card s q)
  unfolding after
  free-same q d = link-kind s S n p m bare is_free (λ _ _. refl) q d

  chosen-frozen : is_frozen (card after p) ≡ true
  unfolding after
  chosen-frozen = rw (link-chosen s S n p m bare)

  all-links : (q : ℕ) → links after q ≡ links s q ++ gain q
  unfolding after gain
  all-links q = link-links s S n p m bare q

  -- ---- B, C

  link-listed : (q : ℕ) → times_listed after q ≡ one (is_live (card after q))
  unfolding times_listed level after
  link-listed q =
      let a = total-set (how_many (eqb q)) s.levels n (replaced p [] (level s n)) [] (omega (arith, S.four)) in
      let c = replaced-counted q p [] (level s n) m in
      let t = listed-total s S q in
      let f = ap (λ (ls : List (List ℕ)). how_many (eqb q) (flat ls)) (link-levels s S n p m bare)
      ∙ how_many-flat (eqb q) (set s.levels n (replaced p [] (level s n))) in
      f ∙ cases (eqb q p)
      (λ e. let qp : q ≡ p = eqb-true q p e in
      let l : one (is_live (card s q)) ≡ 1 = rw (qp, p-live) in
      let z : one (is_live (card (do_link n p (slices_of s n p) s) q)) ≡ 0 = rw (qp, link-chosen s S n p m bare) in
      let o : how_many (eqb q) (p ∷ []) ≡ 1 = rw e in omega arith)
      (λ e. let l : is_live (card (do_link n p (slices_of s n p) s) q) ≡ is_live (card s q) = link-kind s S n p m bare is_live (λ _ _. refl) q (eqb-false q p e) in
      let z : one (is_live (card (do_link n p (slices_of s n p) s) q)) ≡ one (is_live (card s q)) = ap one l in
      let o : how_many (eqb q) (p ∷ []) ≡ 0 = rw e in omega arith)

  link-tables : (q : ℕ) → is_free (card after q) ≡ false → TablePlace (bytes_at after q)
  link-tables q h =
      rw (same_bytes q)
      (S.tables q (cases (eqb q p)
      (λ e. let qp : q ≡ p = eqb-true q p e in rw qp (live-not-free (card s p) p-live))
      (λ e. sym (free-same q (eqb-false q p e)) ∙ h)))

  -- ---- E

  abbrev es : List Entry
  es = table s p

  other-links : (i q : ℕ) → (i ≡ suc n → ⊥) → Memᴰ q (level s i) → links after q ≡ links s q
  unfolding after
  other-links i q d h = link-elsewhere s S n p m bare i q d h

  level-from : level after n ≡ replaced p [] (level s n)
  unfolding after
  level-from = link-from s S n p m bare (omega (arith, S.four))

  level-other : (i : ℕ) → (i ≡ n → ⊥) → level after i ≡ level s i
  unfolding after
  level-other i d = link-other s S n p m bare i d

  -- what is on a level was on it
  level-was : (i q : ℕ) → Memᴰ q (level after i) → Memᴰ q (level s i)
  level-was i q h =
      cases (eqb i n)
      (λ e. let z : i ≡ n = eqb-true i n e in
      rw z (replaced-member q p (level s n) m (rw level-from at (rw z at h))))
      (λ e. rw (level-other i (eqb-false i n e)) at h)

  link-bare : (q : ℕ) → Memᴰ q (level after 0) → links after q ≡ []
  link-bare q h = other-links 0 q (λ e. omega arith) (level-was 0 q h) ∙ S.bare q (level-was 0 q h)

  gain-assigned : Assigned s gain es p 0 (level s (suc n))
  unfolding gain
  gain-assigned = link-assigned s S n p m bare

  -- all entries of the chosen table lie in the ranges, so one of them does
  any-gain : (qs : List ℕ) → is_empty qs ≡ false → Assigned s gain es p 0 qs → (x : ℕ) × ((l : Link) × Memᴰ l (gain x))
  any-gain [] h a = clash refl h
  any-gain (q ∷ qs) h a =
      let r = table-readable s S p (live-not-free (card s p) p-live) in
      any-gains s s (table s p) p 0 q qs gain a (all-range (table s p) r.some r.keys)

  -- what a table may have gained
  gain-at : (q : ℕ) → Memᴰ q (level s (suc n)) → (a : ℕ) × ((b : ℕ) × (gain q ≡ gained es p a b))
  unfolding gain
  gain-at q h = assigned-at s s (table s p) p 0 (level s (suc n)) gain (link-assigned s S n p m bare) q h

  gain-none : (q : ℕ) → (Memᴰ q (level s (suc n)) → ⊥) → gain q ≡ []
  unfolding gain
  gain-none q d = gains-none (table s p) q (slices_of s n p) (λ r h e. d (Memᴰ.cast (sym e) (slice-member s n p r h).1))

  gain-link : (q : ℕ) (l : Link) → Memᴰ l (gain q) → (a : ℕ) × ((b : ℕ) × ((l ≡ new_link es p a b) × (is_empty (within a b es) ≡ false)))
  gain-link q l h =
      member-or-not q (level s (suc n))
      (λ k. let g = gain-at q k in
      cases (is_empty (within g.0 g.1.0 es))
      (λ e. let z : gain q ≡ [] = g.1.1 ∙ rw e in absurd (Memᴰ.not-nil (rw z at h)))
      (λ e. let z : gain q ≡ new_link es p g.0 g.1.0 ∷ [] = g.1.1 ∙ rw e in
      (g.0, (g.1.0, (Memᴰ.eq_of_singleton (rw z at h), e)))))
      (λ d. absurd (Memᴰ.not-nil (rw (gain-none q d) at h)))

  new-slice : (a b : ℕ) → slice s (new_link es p a b) ≡ within a b es
  unfolding slice
  new-slice a b = refl

  gain-place : (q : ℕ) (l : Link) → Memᴰ l (gain q) → l.place ≡ p
  gain-place q l h = ap (λ (x : Link). x.place) (gain-link q l h).1.1.0

  gain-short : (q : ℕ) → Memᴰ q (level s (suc n)) → length (gain q) ≤ 1
  gain-short q h =
      let g = gain-at q h in
      cases (is_empty (within g.0 g.1.0 es))
      (λ e. let z : gain q ≡ [] = g.1.1 ∙ rw e in rw z (omega arith))
      (λ e. let z : gain q ≡ new_link es p g.0 g.1.0 ∷ [] = g.1.1 ∙ rw e in rw z (omega arith))

  same-threshold : after.threshold ≡ s.threshold
  unfolding after
  same-threshold = link-threshold s S n p m bare

  link-few : (q : ℕ) → length (links after q) ≤ after.threshold
  unfolding links card
  link-few q =
      rw (same-threshold, all-links q)
      (member-or-not q (level s (suc n))
      (λ k. omega (arith, length-append (links s q) (gain q), gain-short q k, undue q k))
      (λ d. rw (gain-none q d, append-nil (links s q)) (S.few q)))

  -- an old link does not name the chosen table
  old-other : (q : ℕ) (l : Link) → Memᴰ l (links s q) → l.place ≡ p → ⊥
  old-other q l h e = clash (rw e at (link-frozen s S q l h)) (live-not-frozen (card s p) p-live)

  new-good : (a b : ℕ) → is_empty (within a b es) ≡ false → link_good after (new_link es p a b) ≡ true
  unfolding link_good
  new-good a b e = rw (le-leb a b (range-order a b es e), chosen-frozen, same-slice (new_link es p a b), new-slice a b, e, eq-eqb (length (within a b es)) (length (within a b es)) refl)

  link-hung : (q : ℕ) (l : Link) → Memᴰ l (links after q) → link_good after l ≡ true
  unfolding link_good
  link-hung q l h =
      ⊎_elim
      (λ o. rw (same-frozen l.place (old-other q l o), same-slice l) (S.hung q l o))
      (λ g. let w = gain-link q l g in ap (link_good after) w.1.1.0 ∙ new-good w.0 w.1.0 w.1.1.1)
      (Memᴰ.append_cases (links s q) (rw (all-links q) at h))

  -- ---- F

  -- some table gains
  some-gain : named after p ≡ true
  some-gain =
      let g = any-gain (level s (suc n)) some_below gain-assigned in
      named-intro after p g.0 g.1.0 (rw (all-links g.0) (Memᴰ.append_right (links s g.0) g.1.1)) (gain-place g.0 g.1.0 g.1.1)

  link-naming : (q : ℕ) → is_frozen (card after q) ≡ named after q
  link-naming q =
      cases (eqb q p)
      (λ e. let qp : q ≡ p = eqb-true q p e in rw qp (chosen-frozen ∙ sym some-gain))
      (λ e. let d : q ≡ p → ⊥ = eqb-false q p e in
      same-frozen q d ∙ S.naming q
      ∙ agree (named s q) (named after q)
      (λ h. let w = named-elim s q h in
      named-intro after q w.0 w.1.0 (rw (all-links w.0) (Memᴰ.append_left (gain w.0) w.1.1.0)) w.1.1.1)
      (λ h. let w = named-elim after q h in
      ⊎_elim
      (λ o. named-intro s q w.0 w.1.0 o w.1.1.1)
      (λ g. absurd (d (sym w.1.1.1 ∙ gain-place w.0 w.1.0 g)))
      (Memᴰ.append_cases (links s w.0) (rw (all-links w.0) at w.1.1.0))))

  -- ---- G

  link-rising : (i : ℕ) → spans_rise after (level after (suc i)) ≡ true
  link-rising i =
      at_level n (suc i)
      (λ e. let r = split p (level s n) m in
      let sp : Spans s 0 (r.front ++ (p ∷ r.back)) = rw r.whole at (rw e at (level-spans s S i)) in
      let same : (q : ℕ) → Memᴰ q (replaced p [] (level s n)) → (links after q ≡ links s q) × (bytes_at after q ≡ bytes_at s q) =
      λ q h. (other-links n q (λ x. omega arith) (replaced-member q p (level s n) m h), same_bytes q) in
      rw (e, level-from) (spans_rise-same s after (replaced p [] (level s n)) same
      ∙ ap (spans_rise s) (r.other []) ∙ spans-rise s 0 (r.front ++ r.back) (spans-without s 0 r.front p r.back sp)))
      (λ e. rw (e, level-other (suc n) (λ x. omega arith))
      (spans-rise after 0 (level s (suc n))
      (link-spans s after es p 0 (level s (suc n)) gain (λ q _. (table_same s after q (same_bytes q), all-links q)) (level-spans s S n) gain-assigned)))
      (λ a b. rw (level-other (suc i) a)
      (spans_rise-same s after (level s (suc i)) (λ q h. (other-links (suc i) q b h, same_bytes q)) ∙ S.rising i))

  -- ---- links that name one place share no key

  old-hung : (i : ℕ) → keep (λ h. not (names p h)) (hung_on after i) ≡ hung_on s i
  unfolding hung_on
  old-hung i =
      keep-old s after p gain all-links old-other gain-place i (level after i)
      ∙ cases (eqb i n)
      (λ e. let r = split p (level s n) m in
      rw (eqb-true i n e, level-from, r.other []) (sym (hung_in-bare s n p r.front r.back bare) ∙ ap (hung_in s n) (sym r.whole)))
      (λ e. rw (level-other i (eqb-false i n e)))

  -- the new ones all hang on the level below
  new-hung : (i : ℕ) → keep (names p) (hung_on after i) ≡ cond (eqb i (suc n)) (new_in (suc n) gain (level s (suc n))) []
  unfolding hung_on
  new-hung i =
      keep-new s after p gain all-links old-other gain-place i (level after i)
      ∙ cases (eqb i (suc n))
      (λ e. rw (e, eqb-true i (suc n) e, level-other (suc n) (λ x. omega arith)))
      (λ e. rw e (new_in-none i gain (level after i)
      (λ q h. gain-none q (λ k. listed-once s S i (suc n) q (eqb-false i (suc n) e) (level-was i q h) k))))

  link-disjoint : all_apart (hung_on after 1 ++ (hung_on after 2 ++ hung_on after 3)) ≡ true
  link-disjoint =
      apart-sorts (names p) (hung_on after 1 ++ (hung_on after 2 ++ hung_on after 3))
      (ap all_apart (keep-three (names p)) ∙ rw (new-hung 1, new-hung 2, new-hung 3) (one-level n below (new_in (suc n) gain (level s (suc n))) (new_apart s es p (suc n) gain 0 (level s (suc n)) (level-spans s S n) gain-assigned).0))
      (ap all_apart (keep-three (λ h. not (names p h))) ∙ rw (old-hung 1, old-hung 2, old-hung 3) S.disjoint)
      (λ x y a b. let d : x.link.place ≡ y.link.place → ⊥ = λ e. eqb-false y.link.place p b (sym e ∙ eqb-true x.link.place p a) in
      (apart-places x y d, apart-places y x (λ e. d (sym e))))
    where
      keep-three : (t : Hung → Bool) → keep t (hung_on after 1 ++ (hung_on after 2 ++ hung_on after 3))
          ≡ keep t (hung_on after 1) ++ (keep t (hung_on after 2) ++ keep t (hung_on after 3))
      keep-three t =
          keep_append t (hung_on after 1) (hung_on after 2 ++ hung_on after 3)
          ∙ ap (λ (hs : List Hung). keep t (hung_on after 1) ++ hs) (keep_append t (hung_on after 2) (hung_on after 3))

      one-level : (k : ℕ) → k ≤ 2 → (hs : List Hung) → all_apart hs ≡ true
          → all_apart (cond (eqb 1 (suc k)) hs [] ++ (cond (eqb 2 (suc k)) hs [] ++ cond (eqb 3 (suc k)) hs [])) ≡ true
      one-level zero b hs h = ap all_apart (append-nil hs) ∙ h
      one-level (suc zero) b hs h = ap all_apart (append-nil hs) ∙ h
      one-level (suc (suc zero)) b hs h = h
      one-level (suc (suc (suc k))) b hs h = absurd (omega arith)

  -- ---- all together

  pub sound-link : Sound (do_link n p (slices_of s n p) s)
  unfolding after size
  sound-link = record {
    fewest = rw (link-size s S n p m bare) S.fewest;
    most = rw (link-size s S n p m bare) S.most;
    placed = ap length (link-places s S n p m bare) ∙ S.placed ∙ sym (link-size s S n p m bare);
    four = ap length (link-levels s S n p m bare) ∙ length-set s.levels n (replaced p [] (level s n)) ∙ S.four;
    two = link-marks s S n p m bare ∙ S.two;
    rule_a-kept = rule_a-of (do_link n p (slices_of s n p) s) (rw (link-threshold s S n p m bare) (threshold-sound s S.rule_a-kept))
        (rw (link-cursor s S n p m bare, link-size s S n p m bare) (cursor-sound s S.rule_a-kept));
    listed = link-listed;
    tables = link-tables;
    memory = rw (link-memory s S n p m bare) S.memory;
    bare = link-bare;
    few = link-few;
    hung = link-hung;
    disjoint = link-disjoint;
    naming = link-naming;
    rising = link-rising;
  }
