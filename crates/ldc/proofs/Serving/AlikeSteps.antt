-- Stores that are alike stay alike under what a request changes. Cards and lists change in both in the same way; a place that is written
-- gets the same bytes in both; and only places whose bytes agree become live or frozen.
use Prim.Native.Nat.{ℕ, zero, suc, ◌≤◌, ◌<◌}
use mathlib.Core.Path.{◌≡◌, refl, sym, ◌∙◌, ap, ap₂, subst}
use mathlib.Core.List.{List, [], ◌∷◌, ◌++◌, map, Memᴰ}
use mathlib.Core.Bool.{false}
use mathlib.Core.Option.{Option, some}
use borrow.Author.Tests.{eqb-true, eqb-false, ltb-true, ltb-false}
use lib.Dec.{ltb, eqb}
use lib.ListN.{length, get_or, set, length-set, get_or-eq_default}
use lib.Seq.{get_or-set_same}
use Rattle.table.specs.Entry.{Entry}
use Rattle.table.specs.Search.{greatest_key}
use Rattle.table.specs.Table.{table_bytes}
use Rattle.ldc.specs.Store.{Card, free, live, frozen, is_free, Store, size, card, links, bytes_at, table, level, with_card, with_level, with_memory, with_place, with_cursor, with_marks}
use Rattle.ldc.specs.Rules.{named}
use Rattle.ldc.specs.Place.{next_place, place_taken, written, written_all, places_taken, flushed}
use Rattle.ldc.specs.Tidy.{Slice, merged_tables, tidy_step, moved, linked, merged}
use Rattle.ldc.specs.Steps.{replaced, marks_after, leaves, do_move, link_to, hang, do_link, release, do_merge}
use Rattle.ldc.proofs.Serving.Alike.{Alike, size-alike, links-alike, level-alike, named-alike, taken-alike}
use Rattle.ldc.proofs.Serving.AlikeReads.{listed-bytes, table-alike, merged-alike}
use Rattle.ldc.proofs.Basics.Cases.{cases, clash}
use Rattle.ldc.proofs.Stores.Changes.{card-same, card-other, size-with_card, below-size, bytes-other}
use Rattle.ldc.proofs.Stores.Sound.{Sound}
use Rattle.ldc.proofs.Steps.StepFacts.{step-moved, step-linked, step-merged, slice-member}

-- ---- one part changed

module _ (s s' : Store) (a : Alike s s') where
  pub alike-memory : (es : List Entry) → Alike (with_memory es s) (with_memory es s')
  unfolding card bytes_at
  alike-memory es = record {
    same-threshold = a.same-threshold;
    same-cursor = a.same-cursor;
    same-marks = a.same-marks;
    same-levels = a.same-levels;
    same-cards = a.same-cards;
    same_memory = refl;
    as_many = a.as_many;
    same_bytes = a.same_bytes;
  }

  alike-level : (n : ℕ) (ps : List ℕ) → Alike (with_level n ps s) (with_level n ps s')
  unfolding card bytes_at
  alike-level n ps = record {
    same-threshold = a.same-threshold;
    same-cursor = a.same-cursor;
    same-marks = a.same-marks;
    same-levels = ap (λ ls. set ls n ps) a.same-levels;
    same-cards = a.same-cards;
    same_memory = a.same_memory;
    as_many = a.as_many;
    same_bytes = a.same_bytes;
  }

  alike-marks : (ms ms' : List (Option ℕ)) → ms' ≡ ms → Alike (with_marks ms s) (with_marks ms' s')
  unfolding card bytes_at
  alike-marks ms ms' e = record {
    same-threshold = a.same-threshold;
    same-cursor = a.same-cursor;
    same-marks = e;
    same-levels = a.same-levels;
    same-cards = a.same-cards;
    same_memory = a.same_memory;
    as_many = a.as_many;
    same_bytes = a.same_bytes;
  }

  -- a card, if it is free or the place's bytes agree
  alike-card : (p : ℕ) (c : Card) → (is_free c ≡ false → bytes_at s' p ≡ bytes_at s p) → Alike (with_card p c s) (with_card p c s')
  alike-card p c b = record {
    same-threshold = a.same-threshold;
    same-cursor = a.same-cursor;
    same-marks = a.same-marks;
    same-levels = a.same-levels;
    same-cards = ap (λ cs. set cs p c) a.same-cards;
    same_memory = a.same_memory;
    as_many = a.as_many;
    same_bytes = λ q h. unfold bytes_at in cases (eqb q p)
        (λ e. let qp : q ≡ p = eqb-true q p e in
        let h' : is_free (card (with_card p c s) p) ≡ false = rw qp at h in
        let l : p < size s = rw (size-with_card s p c) at (below-size (with_card p c s) p h') in
        rw qp (b (rw (card-same s p c l) at h')))
        (λ e. a.same_bytes q (rw (card-other s p c q (eqb-false q p e)) at h));
  }

-- ---- tables written

-- The same written at the same place of lists as long; beyond their end nothing is.
set-alike : (xs ys : List (List ℕ)) (i : ℕ) (b : List ℕ) → length ys ≡ length xs → get_or (set ys i b) i [] ≡ get_or (set xs i b) i []
set-alike xs ys i b h =
    cases (ltb i (length xs))
    (λ q. let l : i < length xs = ltb-true i (length xs) q in
    get_or-set_same ys i b [] (rw h l) ∙ sym (get_or-set_same xs i b [] l))
    (λ q. let l : length xs ≤ i = ltb-false i (length xs) q in
    get_or-eq_default (set ys i b) [] (rw (length-set ys i b, h) l) ∙ sym (get_or-eq_default (set xs i b) [] (rw (length-set xs i b) l)))

module _ (s s' : Store) (a : Alike s s') where
  -- the bytes of a place that is written agree
  written-bytes : (p : ℕ) (b : List ℕ) → bytes_at (with_place p b s') p ≡ bytes_at (with_place p b s) p
  unfolding bytes_at
  written-bytes p b = set-alike s.places s'.places p b a.as_many

  alike-place : (p : ℕ) (b : List ℕ) → Alike (with_place p b s) (with_place p b s')
  alike-place p b = record {
    same-threshold = a.same-threshold;
    same-cursor = a.same-cursor;
    same-marks = a.same-marks;
    same-levels = a.same-levels;
    same-cards = a.same-cards;
    same_memory = a.same_memory;
    as_many = simp length-set a.as_many;
    same_bytes = λ q h. cases (eqb q p)
        (λ e. rw (eqb-true q p e) (written-bytes p b))
        (λ e. let d : q ≡ p → ⊥ = eqb-false q p e in
        bytes-other s' p b q d ∙ a.same_bytes q (unfold card in h) ∙ sym (bytes-other s p b q d));
  }

  alike-cursor : (c : ℕ) → Alike (with_cursor c s) (with_cursor c s')
  unfolding card bytes_at
  alike-cursor c = record {
    same-threshold = a.same-threshold;
    same-cursor = refl;
    same-marks = a.same-marks;
    same-levels = a.same-levels;
    same-cards = a.same-cards;
    same_memory = a.same_memory;
    as_many = a.as_many;
    same_bytes = a.same_bytes;
  }

pub alike-written : (es : List Entry) (s s' : Store) → Alike s s' → Alike (written es s) (written es s')
unfolding written
alike-written es s s' a =
    let p = place_taken s in
    let b = table_bytes es in
    let placed = alike-place s s' a p b in
    let carded = alike-card (with_place p b s) (with_place p b s') placed p (live []) (λ _. written-bytes s s' a p b) in
    rw (taken-alike s s' a, size-alike s s' a)
    (alike-cursor (with_card p (live []) (with_place p b s)) (with_card p (live []) (with_place p b s')) carded (next_place (size s) p))

alike-written_all : (ts : List (List Entry)) (s s' : Store) → Alike s s' → Alike (written_all ts s) (written_all ts s')
alike-written_all [] s s' a = a
alike-written_all (t ∷ ts) s s' a = alike-written_all ts (written t s) (written t s') (alike-written t s s' a)

places_taken-alike : (ts : List (List Entry)) (s s' : Store) → Alike s s' → places_taken ts s' ≡ places_taken ts s
places_taken-alike [] s s' a = refl
places_taken-alike (t ∷ ts) s s' a = rw (taken-alike s s' a, places_taken-alike ts (written t s) (written t s') (alike-written t s s' a))

pub alike-flush : (s s' : Store) → Alike s s' → Alike (flushed s) (flushed s')
unfolding flushed
alike-flush s s' a =
    let ps = level s 0 ++ (place_taken s ∷ []) in
    let t = written s.memory s in
    let t' = written s.memory s' in
    rw (level-alike s s' a 0, taken-alike s s' a)
    (subst (λ es. Alike (flushed s) (with_memory [] (with_level 0 ps (written es s')))) (sym a.same_memory)
    (alike-memory (with_level 0 ps t) (with_level 0 ps t') (alike-level t t' (alike-written s.memory s s' a) 0 ps) []))

-- ---- the steps of a tidy

-- Links are hung on places whose bytes agree.
alike-hang : (es : List Entry) (rs : List Slice) (s s' : Store) → Alike s s' → ((r : Slice) → Memᴰ r rs → bytes_at s' r.on ≡ bytes_at s r.on)
    → Alike (hang es rs s) (hang es rs s')
alike-hang es [] s s' a h = a
alike-hang es (r ∷ rs) s s' a h =
    let c = live (links s r.on ++ (link_to es r ∷ [])) in
    rw (links-alike s s' a r.on)
    (alike-hang es rs (with_card r.on c s) (with_card r.on c s') (alike-card s s' a r.on c (λ _. h r (Memᴰ.head refl)))
    (λ x m. unfold bytes_at in h x (Memᴰ.tail m)))

alike-release : (fs : List ℕ) (s s' : Store) → Alike s s' → Alike (release fs s) (release fs s')
alike-release [] s s' a = a
alike-release (f ∷ fs) s s' a =
    rw (named-alike s s' a f)
    (cases (named s f)
    (λ q. rw q (alike-release fs s s' a))
    (λ q. rw q (alike-release fs (with_card f free s) (with_card f free s') (alike-card s s' a f free (λ h. clash refl h)))))

marks_after-alike : (n p : ℕ) (s s' : Store) → Alike s s' → table s' p ≡ table s p → marks_after n p s' ≡ marks_after n p s
marks_after-alike zero p s s' a t = a.same-marks
marks_after-alike (suc n) p s s' a t = ap₂ (λ ms es. set ms n (some (greatest_key es))) a.same-marks t

module _ (s s' : Store) (S : Sound s) (a : Alike s s') (n p : ℕ) where
  alike-leaves : Memᴰ p (level s n) → Alike (leaves n p s) (leaves n p s')
  unfolding leaves
  alike-leaves m =
      rw (level-alike s s' a n)
      (alike-level (with_marks (marks_after n p s) s) (with_marks (marks_after n p s') s')
      (alike-marks s s' a (marks_after n p s) (marks_after n p s') (marks_after-alike n p s s' a (table-alike s s' S a n p m)))
      n (replaced p [] (level s n)))

  pub alike-move : tidy_step s ≡ moved n p → Alike (do_move n p s) (do_move n p s')
  unfolding do_move
  alike-move e = alike-level (leaves n p s) (leaves n p s') (alike-leaves (step-moved s S n p e).chosen.on) (suc n) (p ∷ [])

  pub alike-link : (xs : List Slice) → tidy_step s ≡ linked n p xs → Alike (do_link n p xs s) (do_link n p xs s')
  unfolding do_link
  alike-link xs e =
      let l = step-linked s S n p xs e in
      let on = l.chosen.on in
      rw (table-alike s s' S a n p on)
      (alike-hang (table s p) xs (with_card p frozen (leaves n p s)) (with_card p frozen (leaves n p s'))
      (alike-card (leaves n p s) (leaves n p s') (alike-leaves on) p frozen (λ _. unfold leaves bytes_at in listed-bytes s s' S a n p on))
      (λ r m. unfold leaves bytes_at in listed-bytes s s' S a (suc n) r.on (slice-member s n p r (rw l.slices at m)).1))

  pub alike-merge : tidy_step s ≡ merged n p → Alike (do_merge n p s) (do_merge n p s')
  unfolding do_merge
  alike-merge e =
      let m = (step-merged s S n p e).merging.on in
      let ts = merged_tables s n p in
      let ps = replaced p (places_taken ts s) (level s n) in
      let t = written_all ts s in
      let t' = written_all ts s' in
      rw (links-alike s s' a p, merged-alike s s' S a n p m, places_taken-alike ts s s' a, level-alike s s' a n)
      (alike-release (map (λ l. l.place) (links s p)) (with_card p free (with_level n ps t)) (with_card p free (with_level n ps t'))
      (alike-card (with_level n ps t) (with_level n ps t')
      (alike-level t t' (alike-written_all ts s s' a) n ps)
      p free (λ h. clash refl h)))
