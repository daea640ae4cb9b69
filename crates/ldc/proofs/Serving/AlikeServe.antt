-- Serving does not depend on the bytes of free places: result and body are the same and the stores stay alike, kind by kind. So the slice
-- list that is worked through a list of requests is the same, by induction on the list, as long as each request leaves the store sound.
use Prim.Native.Nat.{ℕ}
use mathlib.Core.Path.{◌≡◌, refl, sym, ◌∙◌, ap, subst}
use mathlib.Core.List.{List, [], ◌∷◌, ◌++◌, map, Memᴰ}
use mathlib.Core.Bool.{Bool, true, false, cond, ◌&&◌, ◌||◌}
use mathlib.Core.Option.{some, none}
use lib.Dec.{ltb, eqb}
use lib.ListN.{length}
use Rattle.table.specs.Limits.{table_limit}
use Rattle.table.specs.Entry.{Entry}
use Rattle.table.specs.Search.{find}
use Rattle.ldc.specs.Lists.{is_empty, is_some}
use Rattle.ldc.specs.Store.{Store, level, within, with_memory}
use Rattle.ldc.specs.Request.{Request, Served, known, body_good, key_in, high_in, value_in, done, only}
use Rattle.ldc.specs.Memtable.{put, serve_put}
use Rattle.ldc.specs.Place.{free_places, flushed, serve_flush}
use Rattle.ldc.specs.Read.{look_up, contents, scan_body, serve_look_up, serve_scan, serve_report}
use Rattle.ldc.specs.Probe.{serve_probe}
use Rattle.ldc.specs.Tidy.{Step, idle, refused, moved, linked, merged, tidy_step}
use Rattle.ldc.specs.Steps.{step_served, serve_tidy}
use Rattle.ldc.specs.Serve.{serve_kind, serve}
use Rattle.ldc.specs.History.{Unmerged, step_of, after_step, unmerged}
use Rattle.ldc.proofs.Serving.Alike.{Alike, alike_is, free_places-alike}
use Rattle.ldc.proofs.Serving.AlikeProbe.{opened-alike, bits-alike}
use Rattle.ldc.proofs.Serving.AlikeReads.{listed-bytes, look_up-alike, contents-alike, tidy_step-alike, step_of-alike}
use Rattle.ldc.proofs.Serving.AlikeSteps.{alike-memory, alike-flush, alike-move, alike-link, alike-merge}
use Rattle.ldc.proofs.Basics.Cases.{cases, maybe}
use Rattle.ldc.proofs.Stores.Sound.{Sound}
use Rattle.ldc.proofs.Steps.StepFacts.{step-linked}

-- ---- serving

pub record SameServed (v v' : Served) : Type 0 where
  pub same-result : v'.result ≡ v.result
  pub same_body : v'.body ≡ v.body
  pub alike : Alike v.store v'.store

same_cond : (b : Bool) {v v' w w' : Served} → SameServed v v' → SameServed w w' → SameServed (cond b v w) (cond b v' w')
same_cond true h k = h
same_cond false h k = k

same-done : (t t' : Store) (b b' : List ℕ) → Alike t t' → b' ≡ b → SameServed (done t b) (done t' b')
same-done t t' b b' h e = record { same-result = refl; same_body = e; alike = h }

module _ (s s' : Store) (S : Sound s) (a : Alike s s') where
  same-only : (n : ℕ) → SameServed (only n s) (only n s')
  same-only n = record { same-result = refl; same_body = refl; alike = a }

  same-put : (e : Entry) → SameServed (serve_put s e) (serve_put s' e)
  unfolding serve_put
  same-put e =
      subst
      (λ es. SameServed (serve_put s e)
      (cond (is_some (find e.key es) || ltb (length es) table_limit) (done (with_memory (put e es) s') []) (only 18 s')))
      (sym a.same_memory)
      (same_cond (is_some (find e.key s.memory) || ltb (length s.memory) table_limit)
      (same-done (with_memory (put e s.memory) s) (with_memory (put e s.memory) s') [] [] (alike-memory s s' a (put e s.memory)) refl)
      (same-only 18))

  same-flush : SameServed (serve_flush s) (serve_flush s')
  unfolding serve_flush
  same-flush =
      rw (free_places-alike s s' a)
      (subst (λ es. SameServed (serve_flush s) (cond (is_empty es) (only 65 s') (cond (eqb (free_places s) 0) (only 20 s') (done (flushed s') []))))
      (sym a.same_memory)
      (same_cond (is_empty s.memory) (same-only 65)
      (same_cond (eqb (free_places s) 0) (same-only 20) (same-done (flushed s) (flushed s') [] [] (alike-flush s s' a) refl))))

  same-look_up : (k : ℕ) → SameServed (serve_look_up s k) (serve_look_up s' k)
  unfolding serve_look_up
  same-look_up k =
      rw (look_up-alike s s' S a k)
      (maybe (look_up s k)
      (λ e. rw e (same-only 64))
      (λ v e. rw e (same-done s s' v v a refl)))

  same-scan : (low high : ℕ) → SameServed (serve_scan s low high) (serve_scan s' low high)
  unfolding serve_scan
  same-scan low high =
      same_cond (ltb high low) (same-only 19)
      (same-done s s' (scan_body (within low high (contents s))) (scan_body (within low high (contents s'))) a (rw (contents-alike s s' S a)))

  same-probe : (k : ℕ) → SameServed (serve_probe s k) (serve_probe s' k)
  unfolding serve_probe
  same-probe k =
      same-done s s' _ _ a (rw (look_up-alike s s' S a k, opened-alike s s' S a k, bits-alike s s' S a k))

  same-report : SameServed (serve_report s) (serve_report s')
  unfolding serve_report level
  same-report = record { same-result = refl; same_body = ap (λ x. (serve_report x).body) (alike_is s s' a); alike = a }

  same_step : (x : Step) → tidy_step s ≡ x → SameServed (step_served x s) (step_served x s')
  same_step idle e = same-only 65
  same_step refused e = same-only 20
  same_step (moved n p) e = record { same-result = refl; same_body = refl; alike = alike-move s s' S a n p e }
  same_step (linked n p xs) e = record { same-result = refl; same_body = refl; alike = alike-link s s' S a n p xs e }
  same_step (merged n p) e = record { same-result = refl; same_body = refl; alike = alike-merge s s' S a n p e }

  same-tidy : SameServed (serve_tidy s) (serve_tidy s')
  unfolding serve_tidy
  same-tidy = rw (tidy_step-alike s s' S a) (same_step (tidy_step s) refl)

  same_kind : (kind : ℕ) (body : List ℕ) → SameServed (serve_kind s kind body) (serve_kind s' kind body)
  unfolding serve_kind
  same_kind kind body =
      same_cond (eqb kind 1) (same-put (record { key = key_in body; value = some (value_in body) }))
      (same_cond (eqb kind 2) (same-put (record { key = key_in body; value = none }))
      (same_cond (eqb kind 3) (same-look_up (key_in body))
      (same_cond (eqb kind 4) (same-scan (key_in body) (high_in body))
      (same_cond (eqb kind 5) same-flush
      (same_cond (eqb kind 6) same-tidy
      (same_cond (eqb kind 8) (same-probe (key_in body))
      same-report))))))

  pub alike-serve : (r : Request) → SameServed (serve s r) (serve s' r)
  unfolding serve
  alike-serve r =
      same_cond (known r.kind)
      (same_cond (body_good r.kind (length r.body)) (same_kind r.kind r.body) (same-only 17))
      (same-only 16)

  -- ---- the slice list

  -- A linked place is live before the step, so that it holds the same bytes.
  after-step : (x : Step) (us : List Unmerged) → tidy_step s ≡ x → after_step s' x us ≡ after_step s x us
  after-step idle us e = refl
  after-step refused us e = refl
  after-step (moved n p) us e = refl
  after-step (linked n p xs) us e =
      ap (λ (b : List ℕ). us ++ map (λ x. record { slice = x; held = b }) xs) (listed-bytes s s' S a n p (step-linked s S n p xs e).chosen.on)
  after-step (merged n p) us e = refl

  pub after-alike : (r : Request) (us : List Unmerged) → after_step s' (step_of s' r) us ≡ after_step s (step_of s r) us
  unfolding step_of
  after-alike r us =
      ap (λ x. after_step s' x us) (step_of-alike s s' S a r)
      ∙ cases (eqb r.kind 6 && eqb (length r.body) 0)
      (λ q. rw q (after-step (tidy_step s) us refl))
      (λ q. rw q)

-- Of requests that leave a sound store sound.
module _ (Good : Request → Type 0) (keeps : (s : Store) (r : Request) → Sound s → Good r → Sound (serve s r).store) where
  pub unmerged-alike : (s s' : Store) (us : List Unmerged) (rs : List Request) → ((r : Request) → Memᴰ r rs → Good r)
      → Sound s → Alike s s' → unmerged s' us rs ≡ unmerged s us rs
  unmerged-alike s s' us [] g S a = refl
  unmerged-alike s s' us (r ∷ rs) g S a =
      ap (λ vs. unmerged (serve s' r).store vs rs) (after-alike s s' S a r us)
      ∙ unmerged-alike (serve s r).store (serve s' r).store (after_step s (step_of s r) us) rs (λ x m. g x (Memᴰ.tail m))
      (keeps s r S (g r (Memᴰ.head refl))) (alike-serve s s' S a r).alike
