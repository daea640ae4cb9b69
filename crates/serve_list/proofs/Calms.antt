-- Where merges can be due, from request to request. A table with the same links and bytes is due as it was; a step changes those of one
-- level, or takes a table out of another, so that on all other levels none is due where none was.
use Prim.Native.Nat.{ℕ, zero, suc, ◌≤◌, ◌<◌}
use mathlib.Core.Path.{◌≡◌, refl, sym, ◌∙◌, ap}
use mathlib.Core.List.{List, [], ◌∷◌, ◌++◌, Memᴰ}
use mathlib.Core.Bool.{false, cond, ◌||◌, true≢false}
use mathlib.Core.Logic.{⊎_elim}
use mathlib.Core.Option.{Option, some, none}
use native.Mathlib.Omega.{arith}
use borrow.Author.Tests.{ltb-true, eqb-true, eqb-false, ne_eqb, lt-ltb}
use lib.Dec.{ltb, eqb}
use lib.ListN.{length, get_or, set}
use lib.Seq.{get_or-set_same, get_or-set_other}
use Rattle.table.specs.Limits.{table_limit}
use Rattle.table.specs.Entry.{Entry}
use Rattle.table.specs.Search.{find}
use Rattle.ldc.specs.Lists.{first, is_empty, is_some}
use Rattle.ldc.specs.Store.{Link, Store, last_level, level, links, table, card, bytes_at}
use Rattle.ldc.specs.Layout.{level_count}
use Rattle.ldc.specs.Request.{Request, tidy_kind, known, body_good, key_in, high_in}
use Rattle.ldc.specs.Memtable.{serve_put}
use Rattle.ldc.specs.Place.{free_places, place_taken, written, flushed, serve_flush}
use Rattle.ldc.specs.Read.{serve_look_up, serve_scan, serve_report, look_up}
use Rattle.ldc.specs.Probe.{serve_probe}
use Rattle.ldc.specs.Tidy.{Spot, due_with, due, due_in, due_table, merge_step, down_step, slices_of, overfull, round, tidy_step}
use Rattle.ldc.specs.Steps.{replaced, leaves, do_move, do_link, do_merge, step_served, serve_tidy}
use Rattle.ldc.specs.Serve.{serve}
use Rattle.ldc.specs.Facts.{Merging, Chosen}
use Rattle.ldc.proofs.Basics.Cases.{cases, maybe}
use Rattle.ldc.proofs.Stores.Sound.{Sound}
use Rattle.ldc.proofs.Stores.Facts.{live_below, listed-live}
use Rattle.ldc.proofs.Stores.Frame.{table_same}
use Rattle.ldc.proofs.Steps.StepFacts.{first-none, due-merging, full-merging, chosen, merge-cases, down-cases}
use Rattle.ldc.proofs.Steps.Move.{replaced-member, move-links, move-bytes}
use Rattle.ldc.proofs.Steps.LinkShape.{link-threshold, link-bytes, link-elsewhere, link-from, link-other}
use Rattle.ldc.proofs.Steps.Merge.{other-links, level-other}
use Rattle.ldc.proofs.Steps.MergeShape.{merge-kept, merge-threshold}
use Rattle.ldc.proofs.Steps.Flush.{flush-links, flush-bytes}
use Rattle.ldc.proofs.Serving.Keeps.{some-length, look-store}
use Rattle.ldc.proofs.Serving.ServeCases.{serve-cases}
use Rattle.compact_pick.specs.Calm.{CalmBut, calm_after}
use Rattle.compact_pick.specs.Plan.{plan_of, level_plan}
use Rattle.serve_write.specs.Turn.{suspect_after}

-- No merge is due on this level.
abbrev Calm : Store → (level : ℕ) → Type 0
Calm s n = first (due s) (level s n) ≡ none

-- ---- tables that stay as they are

due-same : (s s' : Store) (q : ℕ) → s'.threshold ≡ s.threshold → links s' q ≡ links s q → bytes_at s' q ≡ bytes_at s q → due s' q ≡ due s q
unfolding due
due-same s s' q t l b =
    ap (λ (x : ℕ). due_with x (links s' q) (table s' q)) t ∙ ap (λ (x : List Link). due_with s.threshold x (table s' q)) l
    ∙ ap (λ (x : List Entry). due_with s.threshold (links s q) x) (table_same s s' q b)

none-same : (s s' : Store) (ps qs : List ℕ) → s'.threshold ≡ s.threshold
    → ((q : ℕ) → Memᴰ q qs → Memᴰ q ps × ((links s' q ≡ links s q) × (bytes_at s' q ≡ bytes_at s q)))
    → first (due s) ps ≡ none → first (due s') qs ≡ none
none-same s s' ps [] t h e = refl
none-same s s' ps (q ∷ qs) t h e =
    let k = h q (mathlib.Core.List.Memᴰ.head refl) in
    let f : due s' q ≡ false = due-same s s' q t k.1.0 k.1.1 ∙ first-none (due s) ps e q k.0 in
    rw f (none-same s s' ps qs t (λ x m. h x (mathlib.Core.List.Memᴰ.tail m)) e)

-- ---- the due table

module _ (s : Store) where
  calm-all : (ns : List ℕ) → due_in s ns ≡ none → (n : ℕ) → Memᴰ n ns → Calm s n
  calm-all [] e n m = absurd (elim m [ ])
  calm-all (k ∷ ns) e n m =
      maybe (first (due s) (level s k))
      (λ f. ⊎_elim (λ nk. rw nk f) (λ t. calm-all ns (rw f at e) n t) (mathlib.Core.List.Memᴰ.cases_cons m))
      (λ p f. absurd (let x : ◌≡◌ {A = Option Spot} (some (record { on = k; place = p })) none = rw f at e in
      let z : ◌≡◌ {A = ℕ} 0 1 = cc in omega arith))

  none-due : due_table s ≡ none → (i : ℕ) → i < last_level → Calm s (suc i)
  unfolding due_table
  none-due e zero h = calm-all (1 ∷ 2 ∷ 3 ∷ []) e 1 (mathlib.Core.List.Memᴰ.head refl)
  none-due e (suc zero) h = calm-all (1 ∷ 2 ∷ 3 ∷ []) e 2 (mathlib.Core.List.Memᴰ.tail (mathlib.Core.List.Memᴰ.head refl))
  none-due e (suc (suc zero)) h = calm-all (1 ∷ 2 ∷ 3 ∷ []) e 3 (mathlib.Core.List.Memᴰ.tail (mathlib.Core.List.Memᴰ.tail (mathlib.Core.List.Memᴰ.head refl)))
  none-due e (suc (suc (suc i))) h = absurd (omega arith)

  -- It is the first of its level.
  first-due : (ns : List ℕ) (d : Spot) → due_in s ns ≡ some d → first (due s) (level s d.on) ≡ some d.place
  first-due [] d e = absurd (let z : ◌≡◌ {A = ℕ} 0 1 = cc in omega arith)
  first-due (n ∷ ns) d e =
      maybe (first (due s) (level s n))
      (λ q. first-due ns d (rw q at e))
      (λ p q. let x : ◌≡◌ {A = Option Spot} (some (record { on = n; place = p })) (some d) = rw q at e in
      let y : record { on = n; place = p } ≡ d = cc in
      rw (sym y) q)

  -- So it stands on the one level that can have any, and the others have none.
  others-calm : (on : ℕ) (d : Spot) → 1 ≤ d.on → d.on ≤ last_level → CalmBut on s → due_table s ≡ some d → on < level_count
      → (i : ℕ) → i < last_level → (d.on ≡ suc i → ⊥) → Calm s (suc i)
  unfolding due_table
  others-calm on d low high c e four i h x =
      cases (eqb on (suc i))
      (λ q. let at : on ≡ suc i = eqb-true on (suc i) q in
      absurd (found d.on low high (λ z. x (sym z ∙ at)) (first-due (1 ∷ 2 ∷ 3 ∷ []) d e)))
      (λ q. c four i h (eqb-false on (suc i) q))
    where
      found : (n : ℕ) → 1 ≤ n → n ≤ last_level → (on ≡ n → ⊥) → first (due s) (level s n) ≡ some d.place → ⊥
      found zero l g o f = omega arith
      found (suc j) l g o f =
          let z : ◌≡◌ {A = Option ℕ} (some d.place) none = sym f ∙ c four j (omega arith) o in
          let w : ◌≡◌ {A = ℕ} 0 1 = cc in omega arith

-- ---- the steps

module _ (s : Store) (S : Sound s) where
  calm-merge : (on n p : ℕ) → Merging s n p → (on < level_count → (i : ℕ) → i < last_level → (n ≡ suc i → ⊥) → Calm s (suc i))
      → CalmBut (cond (ltb on level_count) n level_count) (step_served (merge_step s n p) s).store
  calm-merge on n p g others =
      cases (ltb on level_count)
      (λ q. rw q (λ four i h x.
      let calm = others (ltb-true on level_count q) i h x in
      merge-cases s n p
      (λ room e. rw e
      (rw (level-other s S n p g.lowest g.highest g.on room (suc i) (λ z. x (sym z)))
      (none-same s (do_merge n p s) (level s (suc i)) (level s (suc i)) (merge-threshold s S n p g.on room)
      (λ a m. (
        m,
        (
          other-links s S n p g.lowest g.highest g.on room (suc i) a (λ z. x (sym z)) m,
          merge-kept s S n p g.on room a (live_below s S a (listed-live s S (suc i) a m)),
        ),
      )) calm)))
      (λ e. rw e calm)))
      (λ q. rw q (λ four. absurd (omega arith)))

  -- Taken out of its level, a table leaves the others there; the next level is the one that can have due merges then.
  module _ (n p : ℕ) (c : Chosen s n p) (calm : (i : ℕ) → i < last_level → Calm s (suc i)) where
    four : n < length s.levels
    four = omega (arith, S.four, c.highest)

    move-levels : (do_move n p s).levels ≡ set (set s.levels n (replaced p [] (level s n))) (suc n) (p ∷ [])
    unfolding do_move leaves
    move-levels = refl

    move-level : (i : ℕ) → (i ≡ suc n → ⊥) → level (do_move n p s) i ≡ get_or (set s.levels n (replaced p [] (level s n))) i []
    unfolding level
    move-level i x = rw move-levels (get_or-set_other (set s.levels n (replaced p [] (level s n))) (suc n) i (p ∷ []) [] x)

    left-member : (q : ℕ) (i : ℕ) → Memᴰ q (get_or (set s.levels n (replaced p [] (level s n))) i []) → Memᴰ q (level s i)
    unfolding level
    left-member q i m =
        cases (eqb i n)
        (λ e. let at : i ≡ n = eqb-true i n e in
        rw at (replaced-member q p (level s n) c.on
        (rw (get_or-set_same s.levels n (replaced p [] (level s n)) [] four) at (rw at at m))))
        (λ e. rw (get_or-set_other s.levels n i (replaced p [] (level s n)) [] (eqb-false i n e)) at m)

    link-member : (q : ℕ) (i : ℕ) → Memᴰ q (level (do_link n p (slices_of s n p) s) i) → Memᴰ q (level s i)
    link-member q i m =
        cases (eqb i n)
        (λ e. let at : i ≡ n = eqb-true i n e in
        rw at (replaced-member q p (level s n) c.on (rw (link-from s S n p c.on c.bare four) at (rw at at m))))
        (λ e. rw (link-other s S n p c.on c.bare i (eqb-false i n e)) at m)

    calm-down : CalmBut (suc n) (step_served (down_step s n p) s).store
    calm-down low i h x =
        down-cases s n p
        (λ empty e. rw e (rw (move-level (suc i) (λ z. x (sym z)))
        (none-same s (do_move n p s) (level s (suc i)) _ (unfold do_move leaves in refl)
        (λ q m. (left-member q (suc i) m, (move-links s S n p c.highest c.on c.bare empty q, move-bytes s S n p c.highest c.on c.bare empty q)))
        (calm i h))))
        (λ _ e. rw e
        (none-same s (do_link n p (slices_of s n p) s) (level s (suc i)) (level (do_link n p (slices_of s n p) s) (suc i)) (link-threshold s S n p c.on c.bare)
        (λ q m. let k = link-member q (suc i) m in
        (k, (link-elsewhere s S n p c.on c.bare (suc i) q (λ z. x (sym z)) k, link-bytes s S n p c.on c.bare q)))
        (calm i h)))

  calm-tidy : (on : ℕ) → CalmBut on s → CalmBut (calm_after on (plan_of s)) (serve_tidy s).store
  unfolding serve_tidy tidy_step plan_of level_plan calm_after
  calm-tidy on calm =
      maybe (due_table s)
      (λ d. maybe (overfull s)
      (λ o. rw (d, o) (λ _ i h _. none-due s d i h))
      (λ n o. maybe (first (λ q. is_empty (links s q)) (round s n))
      (λ f. rw (d, o, f) (calm-merge on n (get_or (round s n) 0 0) (full-merging s S n o f) (λ _ i h _. none-due s d i h)))
      (λ p f. let c = chosen s S n p d o f in
      rw (d, o, f, lt-ltb n last_level (omega (arith, c.highest))) (calm-down n p c (none-due s d)))))
      (λ t d. let g = due-merging s S t d in
      rw d (calm-merge on t.on t.place g (others-calm s on t g.lowest g.highest calm d)))

  -- ---- flush, put, and every request

  flush-level : (i a : ℕ) → Memᴰ a (level (flushed s) (suc i)) → Memᴰ a (level s (suc i))
  unfolding flushed level written
  flush-level i a m = rw (get_or-set_other s.levels 0 (suc i) (get_or s.levels 0 [] ++ (place_taken s ∷ [])) [] (λ z. omega arith)) at m

  calm-flush : (on : ℕ) → CalmBut on s → CalmBut on (serve_flush s).store
  unfolding serve_flush
  calm-flush on calm =
      cases (is_empty s.memory)
      (λ q. rw q calm)
      (λ q. cases (eqb (free_places s) 0)
      (λ t. rw (q, t) calm)
      (λ t. let d = eqb-false (free_places s) 0 t in
      let some-entry = some-length s.memory q in
      rw (q, t) (λ four i h x.
      none-same s (flushed s) (level s (suc i)) (level (flushed s) (suc i)) (unfold flushed written in refl)
      (λ a m. let k : Memᴰ a (level s (suc i)) = flush-level i a m in
      (k, (flush-links s S some-entry (omega arith) a, flush-bytes s S some-entry (omega arith) a (live_below s S a (listed-live s S (suc i) a k)))))
      (calm four i h x))))

  calm_put : (on : ℕ) (e : Entry) → CalmBut on s → CalmBut on (serve_put s e).store
  unfolding serve_put level due links card table bytes_at
  calm_put on e calm =
      cases (is_some (find e.key s.memory) || ltb (length s.memory) table_limit)
      (λ q. rw q calm)
      (λ q. rw q calm)

  -- Only a tidy changes the level that is told.
  stays : (on : ℕ) (r : Request) → (r.kind ≡ tidy_kind → ⊥) → suspect_after on s r ≡ on
  unfolding suspect_after
  stays on r h = rw (ne_eqb r.kind tidy_kind h)

  misfits : (on : ℕ) (r : Request) → body_good r.kind (length r.body) ≡ false → suspect_after on s r ≡ on
  unfolding suspect_after
  misfits on r h = cases (eqb r.kind tidy_kind) (λ q. rw (q, h)) (λ q. rw q)

  tidies : (on : ℕ) (r : Request) → r.kind ≡ tidy_kind → length r.body ≡ 0 → suspect_after on s r ≡ calm_after on (plan_of s)
  unfolding suspect_after body_good
  tidies on r e z = rw (e, z)

  unknown-other : (r : Request) → known r.kind ≡ false → r.kind ≡ tidy_kind → ⊥
  unfolding known
  unknown-other r h e = true≢false (rw e at h)

  pub calm-keeps : (on : ℕ) (r : Request) → CalmBut on s → CalmBut (suspect_after on s r) (serve s r).store
  calm-keeps on r calm = serve-cases s r (λ v. CalmBut (suspect_after on s r) v.store) (record {
    unknown = λ k. rw (stays on r (unknown-other r k)) calm;
    misfit = λ k b. rw (misfits on r b) calm;
    put = λ k _ _. rw (stays on r (λ e. omega arith)) (calm_put on _ calm);
    delete = λ k _. rw (stays on r (λ e. omega arith)) (calm_put on _ calm);
    look = λ k _. unfold serve_look_up in rw (stays on r (λ e. omega arith), look-store s (look_up s (key_in r.body))) calm;
    scan = λ k _. unfold serve_scan in rw (stays on r (λ e. omega arith)) (cases (ltb (high_in r.body) (key_in r.body)) (λ q. rw q calm) (λ q. rw q calm));
    flush = λ k _. rw (stays on r (λ e. omega arith)) (calm-flush on calm);
    tidy = λ k z. rw (tidies on r k z) (calm-tidy on calm);
    probe = λ k _. unfold serve_probe in rw (stays on r (λ e. omega arith)) calm;
    report = λ k _. unfold serve_report in rw (stays on r (λ e. omega arith)) calm;
  })
