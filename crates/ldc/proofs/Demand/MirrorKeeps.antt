-- Every request keeps the mirror: a put or delete that is done changes store and map alike at its key, and nothing else changes a value.
use Prim.Native.Nat.{ℕ, ◌<◌, ◌^◌}
use mathlib.Core.Path.{◌≡◌, refl, sym, ◌∙◌, ap}
use mathlib.Core.List.{List, [], ◌∷◌, ◌++◌, map, reverse}
use mathlib.Core.Bool.{Bool, true, false, cond, not, ◌&&◌, ◌||◌}
use mathlib.Core.Option.{some, none}
use native.Mathlib.Omega.{arith}
use borrow.Author.Tests.{eqb-true, eqb-false, ne_eqb, eq-eqb}
use lib.Dec.{ltb, eqb}
use lib.ListN.{length}
use Rattle.table.specs.Entry.{Entry}
use Rattle.table.specs.Limits.{table_limit}
use Rattle.table.specs.Search.{find}
use Rattle.ldc.specs.Lists.{all, keep, flat, is_some, is_empty}
use Rattle.ldc.specs.Store.{Store, card, links, bytes_at, level, table, slice, sources, with_memory}
use Rattle.ldc.specs.Request.{Request, Served, key_in, high_in, value_in, only, reply_of}
use Rattle.ldc.specs.Memtable.{put, serve_put}
use Rattle.ldc.specs.Place.{free_places, serve_flush}
use Rattle.ldc.specs.Read.{read_order, holds_value, value_of, look_up, serve_look_up, serve_scan, serve_report}
use Rattle.ldc.specs.Probe.{serve_probe}
use Rattle.ldc.specs.Tidy.{Step, idle, refused, moved, linked, merged, tidy_step}
use Rattle.ldc.specs.Steps.{step_served, serve_tidy}
use Rattle.ldc.specs.Serve.{serve}
use Rattle.ldc.specs.History.{fed}
use Rattle.ldc.proofs.Basics.Cases.{cases, maybe, both, both_left, both_right}
use Rattle.ldc.proofs.Entries.Finds.{or_else, find-append, find-put}
use Rattle.ldc.proofs.Steps.Flush.{view-flush}
use Rattle.ldc.proofs.Serving.Keeps.{some-length, look-store, key_fits}
use Rattle.ldc.proofs.Entries.Keys.{find-keep, keys-put, keys-keep}
use Rattle.ldc.proofs.Steps.LinkView.{view-link}
use Rattle.ldc.proofs.Steps.MergeView.{view-merge}
use Rattle.ldc.proofs.Demand.Mirror.{Mirrors, find-key}
use Rattle.ldc.proofs.Steps.Move.{view-move}
use Rattle.ldc.proofs.Stores.Order.{view}
use Rattle.ldc.proofs.Serving.Replies.{reply-result}
use Rattle.ldc.proofs.Serving.ServeCases.{serve-cases}
use Rattle.ldc.proofs.Stores.Sound.{Sound}
use Rattle.ldc.proofs.Serving.Splits.{Sent}
use Rattle.ldc.proofs.Steps.StepFacts.{step-moved, step-linked, step-merged}

-- What the map is fed by a request with its result.
abbrev pub fed_by : Request → (result : ℕ) → List Entry → List Entry
fed_by r result m =
    cond (eqb r.kind 1 && eqb result 0)
    (put (record { key = key_in r.body; value = some (value_in r.body) }) m)
    (cond (eqb r.kind 2 && eqb result 0) (keep (λ x. not (eqb x.key (key_in r.body))) m) m)

-- ---- put and delete

-- What is read behind the memory table.
abbrev behind : Store → List (List Entry)
behind s =
    map (table s) (reverse (level s 0))
    ++ (flat (map (sources s) (level s 1)) ++ (flat (map (sources s) (level s 2)) ++ flat (map (sources s) (level s 3))))

behind-memory : (s : Store) (es : List Entry) → behind (with_memory es s) ≡ behind s
unfolding level table sources slice links card bytes_at
behind-memory s es = refl

view-memory : (s : Store) (es : List Entry) (k : ℕ) → view (with_memory es s) k ≡ or_else (find k es) (find k (flat (behind s)))
unfolding read_order
view-memory s es k =
    find-append k es (flat (behind (with_memory es s))) ∙ ap (λ (xs : List (List Entry)). or_else (find k es) (find k (flat xs))) (behind-memory s es)

-- The store with one entry more in memory.
pub view-put : (s : Store) (e : Entry) (k : ℕ) → view (with_memory (put e s.memory) s) k ≡ cond (eqb e.key k) (some e) (view s k)
unfolding read_order
view-put s e k =
    view-memory s (put e s.memory) k
    ∙ ap (λ o. or_else o (find k (flat (behind s)))) (find-put k e s.memory)
    ∙ cases (eqb e.key k)
    (λ q. rw q)
    (λ q. rw q (sym (find-append k s.memory (flat (behind s)))))

all-put : (e : Entry) (es : List Entry) → holds_value e ≡ true → all holds_value es ≡ true → all holds_value (put e es) ≡ true
all-put e [] h a = rw h
all-put e (f ∷ es) h a =
    cases (ltb e.key f.key)
    (λ lt. rw lt (both (holds_value e) (all holds_value (f ∷ es)) h a))
    (λ ge. cases (eqb e.key f.key)
    (λ eq. rw (ge, eq) (both (holds_value e) (all holds_value es) h (both_right (holds_value f) (all holds_value es) a)))
    (λ ne. rw (ge, ne) (both (holds_value f) (all holds_value (put e es)) (both_left (holds_value f) (all holds_value es) a)
    (all-put e es h (both_right (holds_value f) (all holds_value es) a)))))

all_keep : (t : Entry → Bool) (es : List Entry) → all holds_value es ≡ true → all holds_value (keep t es) ≡ true
all_keep t [] a = refl
all_keep t (e ∷ es) a =
    cases (t e)
    (λ q. rw q (both (holds_value e) (all holds_value (keep t es)) (both_left (holds_value e) (all holds_value es) a) (all_keep t es (both_right (holds_value e) (all holds_value es) a))))
    (λ q. rw q (all_keep t es (both_right (holds_value e) (all holds_value es) a)))

module _ (s : Store) (m : List Entry) (M : Mirrors s m) (key : ℕ) (fits : key < 2 ^ 64) where
  mirror-put : (v : List ℕ) → Mirrors (with_memory (put (record { key = key; value = some v }) s.memory) s) (put (record { key = key; value = some v }) m)
  mirror-put v =
      let e : Entry = record { key = key; value = some v } in
      record {
        values = λ k. ap value_of (view-put s e k)
            ∙ cases (eqb key k) (λ q. rw q) (λ q. rw q (M.values k))
            ∙ sym (ap value_of (find-put k e m));
        keys = keys-put 0 (2 ^ 64) e m (omega arith) fits M.keys;
        held = all-put e m refl M.held;
      }

  -- what is left of the map under a key
  without-key : (k : ℕ) → value_of (find k (keep (λ x. not (eqb x.key key)) m)) ≡ cond (eqb key k) none (value_of (find k m))
  without-key k =
      ap value_of (find-keep k 0 (2 ^ 64) (λ x. not (eqb x.key key)) m M.keys)
      ∙ maybe (find k m)
      (λ q. rw q (cases (eqb key k) (λ t. rw t) (λ t. rw t)))
      (λ e q. let ek : e.key ≡ k = find-key k m e q in
      cases (eqb key k)
      (λ t. let z : eqb e.key key ≡ true = eq-eqb e.key key (ek ∙ sym (eqb-true key k t)) in rw (t, q) (rw z))
      (λ t. let z : eqb e.key key ≡ false = ne_eqb e.key key (λ x. eqb-false key k t (sym x ∙ ek)) in rw (t, q) (rw z)))

  mirror-delete : Mirrors (with_memory (put (record { key = key; value = none }) s.memory) s) (keep (λ x. not (eqb x.key key)) m)
  mirror-delete = record {
    values = λ k. ap value_of (view-put s (record { key = key; value = none }) k)
        ∙ cases (eqb key k) (λ q. rw q) (λ q. rw q (M.values k))
        ∙ sym (without-key k);
    keys = keys-keep 0 (2 ^ 64) (λ x. not (eqb x.key key)) m M.keys;
    held = all_keep (λ x. not (eqb x.key key)) m M.held;
  }

-- ---- flush and tidy

-- A store that gives every key the value that it had mirrors the same map.
same-mirror : (s s' : Store) (m : List Entry) → ((k : ℕ) → value_of (view s' k) ≡ value_of (view s k)) → Mirrors s m → Mirrors s' m
same-mirror s s' m h M = record { values = λ k. h k ∙ M.values k; keys = M.keys; held = M.held }

pub flush-values : (s : Store) → Sound s → (k : ℕ) → value_of (view (serve_flush s).store k) ≡ value_of (view s k)
unfolding serve_flush
flush-values s S k =
    cases (is_empty s.memory)
    (λ q. rw q)
    (λ q. cases (eqb (free_places s) 0)
    (λ t. rw (q, t))
    (λ t. let d = eqb-false (free_places s) 0 t in rw (q, t) (ap value_of (view-flush s S (some-length s.memory q) (omega arith) k))))

pub tidy-values : (s : Store) → Sound s → (k : ℕ) → value_of (view (serve_tidy s).store k) ≡ value_of (view s k)
unfolding serve_tidy
tidy-values s S k = step-values (tidy_step s) refl
  where
    step-values : (t : Step) → tidy_step s ≡ t → value_of (view (step_served t s).store k) ≡ value_of (view s k)
    step-values idle e = refl
    step-values refused e = refl
    step-values (moved n p) e =
        let f = step-moved s S n p e in
        ap value_of (view-move s S n p f.chosen.highest f.chosen.on f.chosen.bare f.empty k f.chosen.oldest)
    step-values (linked n p xs) e =
        let f = step-linked s S n p xs e in
        rw f.slices (ap value_of (view-link s S n p f.chosen.highest f.chosen.on f.chosen.bare f.filled k f.chosen.oldest))
    step-values (merged n p) e =
        let f = step-merged s S n p e in
        view-merge s S n p f.merging.lowest f.merging.highest f.merging.on f.room k

-- ---- every request

module _ (s : Store) (S : Sound s) (m : List Entry) (M : Mirrors s m) (r : Request) (g : Sent r) where
  -- a request that is no put or delete, or was not done, feeds nothing
  unfed : (result : ℕ) → (eqb r.kind 1 && eqb result 0) ≡ false → (eqb r.kind 2 && eqb result 0) ≡ false → fed_by r result m ≡ m
  unfed result a b = rw (a, b)

  unfed-kind : (result n : ℕ) → r.kind ≡ n → eqb n 1 ≡ false → eqb n 2 ≡ false → fed_by r result m ≡ m
  unfed-kind result n e a b = unfed result (rw (e, a)) (rw (e, b))

  unfed-result : (result : ℕ) → eqb result 0 ≡ false → fed_by r result m ≡ m
  unfed-result result z = unfed result (rw z (and-false (eqb r.kind 1))) (rw z (and-false (eqb r.kind 2)))
    where
      and-false : (b : Bool) → (b && false) ≡ false
      and-false true = refl
      and-false false = refl

  abbrev Fed : Served → Type 0
  Fed v = Mirrors v.store (fed_by r v.result m)

  same-fed : (v : Served) → fed_by r v.result m ≡ m → ((k : ℕ) → value_of (view v.store k) ≡ value_of (view s k)) → Fed v
  same-fed v e h = rw e (same-mirror s v.store m h M)

  kind-fed : (v : Served) (n : ℕ) → r.kind ≡ n → eqb n 1 ≡ false → eqb n 2 ≡ false → ((k : ℕ) → value_of (view v.store k) ≡ value_of (view s k)) → Fed v
  kind-fed v n e a b h = same-fed v (unfed-kind v.result n e a b) h

  put-fed : r.kind ≡ 1 → Fed (serve_put s (record { key = key_in r.body; value = some (value_in r.body) }))
  unfolding serve_put
  put-fed k =
      cases (is_some (find (key_in r.body) s.memory) || ltb (length s.memory) table_limit)
      (λ q. rw (q, k) (mirror-put s m M (key_in r.body) (key_fits r.body g.0) (value_in r.body)))
      (λ q. rw (q, k) M)

  delete-fed : r.kind ≡ 2 → Fed (serve_put s (record { key = key_in r.body; value = none }))
  unfolding serve_put
  delete-fed k =
      cases (is_some (find (key_in r.body) s.memory) || ltb (length s.memory) table_limit)
      (λ q. rw (q, k) (mirror-delete s m M (key_in r.body) (key_fits r.body g.0)))
      (λ q. rw (q, k) M)

  served-fed : Fed (serve s r)
  served-fed = serve-cases s r Fed (record {
    unknown = λ k. same-fed (only 16 s) (unfed-result 16 refl) (λ _. refl);
    misfit = λ k b. same-fed (only 17 s) (unfed-result 17 refl) (λ _. refl);
    put = λ k lo hi. put-fed k;
    delete = λ k n. delete-fed k;
    look = λ k n. kind-fed (serve_look_up s (key_in r.body)) 3 k refl refl (λ x. unfold serve_look_up in rw (look-store s (look_up s (key_in r.body))));
    scan = λ k n. kind-fed (serve_scan s (key_in r.body) (high_in r.body)) 4 k refl refl
        (λ x. unfold serve_scan in cases (ltb (high_in r.body) (key_in r.body)) (λ q. rw q) (λ q. rw q));
    flush = λ k n. kind-fed (serve_flush s) 5 k refl refl (flush-values s S);
    tidy = λ k n. kind-fed (serve_tidy s) 6 k refl refl (tidy-values s S);
    probe = λ k n. kind-fed (serve_probe s (key_in r.body)) 8 k refl refl (λ x. unfold serve_probe in refl);
    report = λ k n. kind-fed (serve_report s) 7 k refl refl (λ x. unfold serve_report in refl);
  })

  pub mirror-keeps : Mirrors (serve s r).store (fed (record { request = r; reply = reply_of r (serve s r) }) m)
  unfolding fed
  mirror-keeps = rw (reply-result s S r) served-fed
