-- Every request keeps every place whole: what is written to a place are a table's 1,024 bytes.
use Prim.Native.Nat.{ℕ}
use mathlib.Core.Path.{◌≡◌, refl, ◌∙◌, ap}
use mathlib.Core.List.Memᴰ
use mathlib.Core.List.{List, [], ◌∷◌, Memᴰ}
use mathlib.Core.Bool.{◌||◌}
use mathlib.Core.Option.{some, none}
use native.Mathlib.Omega.{arith}
use borrow.Author.Tests.{eqb-false}
use lib.Dec.{ltb, eqb}
use lib.ListN.{length, get_or}
use Rattle.table.specs.Entry.{Entry}
use Rattle.table.specs.Limits.{table_limit}
use Rattle.table.specs.Search.{find}
use Rattle.table.specs.Valid.{Valid}
use Rattle.ldc.specs.Lists.{is_empty, is_some}
use Rattle.ldc.specs.Store.{Store, size, bytes_at}
use Rattle.ldc.specs.Request.{Request, key_in, high_in, value_in}
use Rattle.ldc.specs.Memtable.{serve_put}
use Rattle.ldc.specs.Place.{place_taken, written, written_all, places_taken, flushed, free_places, serve_flush}
use Rattle.ldc.specs.Read.{look_up, serve_look_up, serve_scan, serve_report}
use Rattle.ldc.specs.Probe.{serve_probe}
use Rattle.ldc.specs.Tidy.{Step, idle, refused, moved, linked, merged, tidy_step, slices_of, merged_tables}
use Rattle.ldc.specs.Steps.{leaves, do_move, do_link, step_served, serve_tidy}
use Rattle.ldc.specs.Serve.{serve}
use Rattle.ldc.proofs.Basics.Cases.{cases}
use Rattle.ldc.proofs.Stores.Facts.{cursor-sound}
use Rattle.ldc.proofs.Serving.Keeps.{look-store}
use Rattle.ldc.proofs.Steps.LinkShape.{link-places, link-size}
use Rattle.ldc.proofs.Steps.MergeShape.{merged-pieces, p-occupied, filled-wrote, merge-bytes, merge-size}
use Rattle.ldc.proofs.Serving.ServeCases.{serve-cases}
use Rattle.ldc.proofs.Stores.Sound.{Sound, Whole}
use Rattle.ldc.proofs.Serving.Splits.{Sent}
use Rattle.ldc.proofs.Steps.StepFacts.{step-linked, step-merged}
use Rattle.ldc.proofs.Stores.TableLaws.{table_bytes-long}
use Rattle.ldc.proofs.Stores.Written.{Wrote, wrote, wrote-stored, taken-or-kept}

-- the same places, or tables written to some
same_whole : (s s' : Store) → s'.places ≡ s.places → size s' ≡ size s → Whole s → Whole s'
unfolding bytes_at
same_whole s s' e z w p h = ap (λ (bs : List (List ℕ)). length (get_or bs p [])) e ∙ w p (rw z at h)

wrote-whole : (s s' : Store) (places : List ℕ) (tables : List (List Entry)) → Wrote s s' places tables → ((t : List Entry) → Memᴰ t tables → Valid t) → Whole s → Whole s'
wrote-whole s s' places tables x v w p h =
    taken-or-kept s s' places tables x p
    (λ t. let d = wrote-stored s s' places tables x p t in rw d.1.1 (table_bytes-long d.0 (v d.0 d.1.0)))
    (λ k. rw (x.kept p k).1 (w p (rw x.same_size at h)))

flush-whole : (s : Store) → Sound s → Whole s → Whole (serve_flush s).store
unfolding serve_flush flushed size bytes_at
flush-whole s S w =
    cases (is_empty s.memory)
    (λ q. rw q w)
    (λ q. cases (eqb (free_places s) 0)
    (λ t. rw (q, t) w)
    (λ t. let d = eqb-false (free_places s) 0 t in
    rw (q, t) (wrote-whole s (written s.memory s) (place_taken s ∷ []) (s.memory ∷ [])
    (wrote (s.memory ∷ []) s (cursor-sound s S.rule_a-kept) (omega arith) S.placed)
    (λ x m. rw (Memᴰ.eq_of_singleton m) S.memory) w)))

tidy-whole : (s : Store) → Sound s → Whole s → Whole (serve_tidy s).store
unfolding serve_tidy do_move leaves size bytes_at
tidy-whole s S w = step-whole (tidy_step s) refl
  where
    step-whole : (t : Step) → tidy_step s ≡ t → Whole (step_served t s).store
    step-whole idle e = w
    step-whole refused e = w
    step-whole (moved n p) e = w
    step-whole (linked n p xs) e =
        let f = step-linked s S n p xs e in
        rw f.slices (same_whole s (do_link n p (slices_of s n p) s) (link-places s S n p f.chosen.on f.chosen.bare) (link-size s S n p f.chosen.on f.chosen.bare) w)
    step-whole (merged n p) e =
        let f = step-merged s S n p e in
        let on = f.merging.on in
        λ q h. ap length (merge-bytes s S n p on f.room q)
        ∙ wrote-whole s (written_all (merged_tables s n p) s) (places_taken (merged_tables s n p) s) (merged_tables s n p) (filled-wrote s S n p on f.room)
        (λ t m. (merged-pieces s S p (p-occupied s S n p on f.room) n t m).valid) w q
        (rw (merge-size s S n p on f.room, ← (filled-wrote s S n p on f.room).same_size) at h)

put_whole : (s : Store) (e : Entry) → Whole s → Whole (serve_put s e).store
unfolding serve_put size bytes_at
put_whole s e w = cases (is_some (find e.key s.memory) || ltb (length s.memory) table_limit) (λ q. rw q w) (λ q. rw q w)

pub whole-keeps : (s : Store) (r : Request) → Sound s → Whole s → Sent r → Whole (serve s r).store
whole-keeps s r S w g = serve-cases s r (λ v. Whole v.store) (record {
  unknown = λ k. w;
  misfit = λ k b. w;
  put = λ k lo hi. put_whole s (record { key = key_in r.body; value = some (value_in r.body) }) w;
  delete = λ k n. put_whole s (record { key = key_in r.body; value = none }) w;
  look = λ k n. unfold serve_look_up in rw (look-store s (look_up s (key_in r.body))) w;
  scan = λ k n. unfold serve_scan in cases (ltb (high_in r.body) (key_in r.body)) (λ q. rw q w) (λ q. rw q w);
  flush = λ k n. flush-whole s S w;
  tidy = λ k n. tidy-whole s S w;
  probe = λ k n. unfold serve_probe in w;
  report = λ k n. unfold serve_report in w;
})
