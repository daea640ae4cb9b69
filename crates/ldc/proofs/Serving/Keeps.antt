-- Every request keeps a sound store sound. By the request's kind, and for a tidy by the step that it names.
use Prim.Native.Nat.{ℕ, suc, ◌+◌, ◌≤◌, ◌<◌, ◌^◌}
use mathlib.Core.Path.{◌≡◌, refl, sym, ap}
use mathlib.Core.List.{List, [], ◌∷◌}
use mathlib.Core.Bool.{true, false, ◌||◌}
use mathlib.Core.Option.{Option, some, none}
use native.Mathlib.Omega.{arith}
use borrow.Author.Tests.{ltb-true, eqb-false, ne_eqb}
use lib.Dec.{ltb, eqb}
use lib.ListN.{length, length-drop}
use Rattle.coding.specs.Number.{Bytes}
use Rattle.coding.proofs.NumberLaws.{number_at-bound, bytes_drop}
use Rattle.table.specs.Entry.{Entry}
use Rattle.table.specs.Limits.{table_limit, value_limit}
use Rattle.table.specs.Search.{find}
use Rattle.table.specs.Valid.{Keys, Values, Valid}
use Rattle.ldc.specs.Lists.{is_empty, is_some}
use Rattle.ldc.specs.Store.{Store}
use Rattle.ldc.specs.Request.{Request, key_in, high_in, value_in}
use Rattle.ldc.specs.Memtable.{put, serve_put}
use Rattle.ldc.specs.Place.{free_places, serve_flush}
use Rattle.ldc.specs.Read.{look_up, look_up_served, serve_look_up, serve_scan, serve_report}
use Rattle.ldc.specs.Probe.{serve_probe}
use Rattle.ldc.specs.Tidy.{Step, idle, refused, moved, linked, merged, tidy_step}
use Rattle.ldc.specs.Steps.{step_served, serve_tidy}
use Rattle.ldc.specs.Serve.{serve}
use Rattle.ldc.proofs.Basics.Cases.{cases, clash}
use Rattle.ldc.proofs.Steps.Flush.{sound-flush}
use Rattle.ldc.proofs.Entries.Keys.{keys-put, find-below, values-put}
use Rattle.ldc.proofs.Steps.Link.{sound-link}
use Rattle.ldc.proofs.Steps.Merge.{sound-merge}
use Rattle.ldc.proofs.Steps.Move.{sound-move}
use Rattle.ldc.proofs.Serving.ServeCases.{serve-cases}
use Rattle.ldc.proofs.Stores.Sound.{Sound}
use Rattle.ldc.proofs.Steps.SoundMemory.{sound-memory}
use Rattle.ldc.proofs.Serving.Splits.{Sent}
use Rattle.ldc.proofs.Steps.StepFacts.{step-moved, step-linked, step-merged}

-- ---- put and delete

length-put : (e : Entry) (es : List Entry) → length (put e es) ≤ suc (length es)
length-put e [] = omega arith
length-put e (f ∷ es) =
    cases (ltb e.key f.key)
    (λ lt. rw lt (omega arith))
    (λ ge. cases (eqb e.key f.key) (λ eq. rw (ge, eq) (omega arith)) (λ ne. rw (ge, ne) (omega (arith, length-put e es))))

-- a key that is there is replaced
length-replaced : (low high : ℕ) (e : Entry) (es : List Entry) → Keys low high es → is_some (find e.key es) ≡ true → length (put e es) ≡ length es
unfolding find
length-replaced low high e [] k h = clash h refl
length-replaced low high e (f ∷ es) k h =
    cases (ltb e.key f.key)
    (λ lt. let z : find e.key (f ∷ es) ≡ none = find-below e.key f.key high (f ∷ es) (omega arith, k.1) (ltb-true e.key f.key lt) in
    clash h (rw z))
    (λ ge. cases (eqb e.key f.key)
    (λ eq. rw (ge, eq))
    (λ ne. let ne' : eqb f.key e.key ≡ false = ne_eqb f.key e.key (λ q. eqb-false e.key f.key ne (sym q)) in
    rw (ge, ne) (ap suc (length-replaced (suc f.key) high e es k.1 (rw ne' at h)))))

module _ (s : Store) (S : Sound s) (e : Entry) (key : e.key < 2 ^ 64) (value : Values (e ∷ [])) where
  put-valid : (is_some (find e.key s.memory) || ltb (length s.memory) table_limit) ≡ true → Valid (put e s.memory)
  put-valid h =
      let v = S.memory in
      record {
        keys = keys-put 0 (2 ^ 64) e s.memory (omega arith) key v.keys;
        values = values-put e s.memory value v.values;
        few = cases (is_some (find e.key s.memory))
            (λ q. omega (arith, length-replaced 0 (2 ^ 64) e s.memory v.keys q, v.few))
            (λ q. omega (arith, length-put e s.memory, ltb-true (length s.memory) table_limit (rw q at h)));
      }

  pub put-sound : Sound (serve_put s e).store
  unfolding serve_put
  put-sound =
      cases (is_some (find e.key s.memory) || ltb (length s.memory) table_limit)
      (λ q. rw q (sound-memory s (put e s.memory) S (put-valid q)))
      (λ q. rw q S)

-- ---- flush and tidy

pub some-length : {A : Type 0} (xs : List A) → is_empty xs ≡ false → 1 ≤ length xs
some-length [] h = clash refl h
some-length (x ∷ xs) h = omega arith

pub flush-sound : (s : Store) → Sound s → Sound (serve_flush s).store
unfolding serve_flush
flush-sound s S =
    cases (is_empty s.memory)
    (λ q. rw q S)
    (λ q. cases (eqb (free_places s) 0)
    (λ t. rw (q, t) S)
    (λ t. let d = eqb-false (free_places s) 0 t in rw (q, t) (sound-flush s S (some-length s.memory q) (omega arith))))

pub tidy-sound : (s : Store) → Sound s → Sound (serve_tidy s).store
unfolding serve_tidy
tidy-sound s S = step-sound (tidy_step s) refl
  where
    step-sound : (t : Step) → tidy_step s ≡ t → Sound (step_served t s).store
    step-sound idle e = S
    step-sound refused e = S
    step-sound (moved n p) e =
        let f = step-moved s S n p e in
        sound-move s S n p f.chosen.highest f.chosen.on f.chosen.bare f.empty
    step-sound (linked n p xs) e =
        let f = step-linked s S n p xs e in
        rw f.slices (sound-link s S n p f.chosen.highest f.chosen.on f.chosen.bare f.filled f.chosen.calm)
    step-sound (merged n p) e =
        let f = step-merged s S n p e in
        sound-merge s S n p f.merging.lowest f.merging.highest f.merging.on f.room

-- ---- every request

-- what a put or delete puts is fit for a table
entry-fits : (body : List ℕ) → Bytes body → 8 ≤ length body → length body ≤ 8 + value_limit
    → Values (record { key = key_in body; value = some (value_in body) } ∷ [])
unfolding value_in
entry-fits body b lo hi = ((simp length-drop (omega arith), bytes_drop 8 body b), tt)

pub key_fits : (body : List ℕ) → Bytes body → key_in body < 2 ^ 64
unfolding key_in
key_fits body b = number_at-bound 8 body 0 b

pub look-store : (s : Store) (o : Option (List ℕ)) → (look_up_served s o).store ≡ s
look-store s none = refl
look-store s (some v) = refl

pub keeps : (s : Store) (r : Request) → Sound s → Sent r → Sound (serve s r).store
keeps s r S g = serve-cases s r (λ v. Sound v.store) (record {
  unknown = λ k. S;
  misfit = λ k b. S;
  put = λ k lo hi. put-sound s S (record { key = key_in r.body; value = some (value_in r.body) }) (key_fits r.body g.0) (entry-fits r.body g.0 lo hi);
  delete = λ k n. put-sound s S (record { key = key_in r.body; value = none }) (key_fits r.body g.0) ((omega arith, λ i. omega arith), tt);
  look = λ k n. unfold serve_look_up in rw (look-store s (look_up s (key_in r.body))) S;
  scan = λ k n. unfold serve_scan in cases (ltb (high_in r.body) (key_in r.body)) (λ q. rw q S) (λ q. rw q S);
  flush = λ k n. flush-sound s S;
  tidy = λ k n. tidy-sound s S;
  probe = λ k n. unfold serve_probe in S;
  report = λ k n. unfold serve_report in S;
})
