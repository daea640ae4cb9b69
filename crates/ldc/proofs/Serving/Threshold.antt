-- No request changes the threshold.
use mathlib.Core.Path.{◌≡◌, refl, ◌∙◌}
use mathlib.Core.List.{List, [], ◌∷◌, Memᴰ}
use mathlib.Core.Bool.{◌||◌}
use mathlib.Core.Option.{some, none}
use lib.Dec.{ltb, eqb}
use lib.ListN.{length}
use Rattle.table.specs.Entry.{Entry}
use Rattle.table.specs.Limits.{table_limit}
use Rattle.table.specs.Search.{find}
use Rattle.ldc.specs.Lists.{is_empty, is_some}
use Rattle.ldc.specs.Store.{Store}
use Rattle.ldc.specs.Request.{Request, key_in, high_in, value_in}
use Rattle.ldc.specs.Memtable.{serve_put}
use Rattle.ldc.specs.Place.{written, flushed, free_places, serve_flush}
use Rattle.ldc.specs.Read.{look_up, serve_look_up, serve_scan, serve_report}
use Rattle.ldc.specs.Probe.{serve_probe}
use Rattle.ldc.specs.Tidy.{Step, idle, refused, moved, linked, merged, tidy_step}
use Rattle.ldc.specs.Steps.{leaves, do_move, step_served, serve_tidy}
use Rattle.ldc.specs.Serve.{serve}
use Rattle.ldc.specs.History.{serve_list}
use Rattle.ldc.proofs.Basics.Cases.{cases}
use Rattle.ldc.proofs.Serving.Keeps.{look-store, keeps}
use Rattle.ldc.proofs.Steps.LinkShape.{link-threshold}
use Rattle.ldc.proofs.Steps.MergeShape.{merge-threshold}
use Rattle.ldc.proofs.Serving.ServeCases.{serve-cases}
use Rattle.ldc.proofs.Stores.Sound.{Sound}
use Rattle.ldc.proofs.Serving.Splits.{Sent}
use Rattle.ldc.proofs.Steps.StepFacts.{step-linked, step-merged}

module _ (s : Store) (S : Sound s) where
  tidy-threshold : (serve_tidy s).store.threshold ≡ s.threshold
  unfolding serve_tidy do_move leaves
  tidy-threshold = step-threshold (tidy_step s) refl
    where
      step-threshold : (t : Step) → tidy_step s ≡ t → (step_served t s).store.threshold ≡ s.threshold
      step-threshold idle e = refl
      step-threshold refused e = refl
      step-threshold (moved n p) e = refl
      step-threshold (linked n p xs) e =
          let f = step-linked s S n p xs e in rw f.slices (link-threshold s S n p f.chosen.on f.chosen.bare)
      step-threshold (merged n p) e =
          let f = step-merged s S n p e in merge-threshold s S n p f.merging.on f.room

  put-threshold : (e : Entry) → (serve_put s e).store.threshold ≡ s.threshold
  unfolding serve_put
  put-threshold e = cases (is_some (find e.key s.memory) || ltb (length s.memory) table_limit) (λ q. rw q) (λ q. rw q)

  flush-threshold : (serve_flush s).store.threshold ≡ s.threshold
  unfolding serve_flush flushed written
  flush-threshold = cases (is_empty s.memory) (λ q. rw q) (λ q. cases (eqb (free_places s) 0) (λ t. rw (q, t)) (λ t. rw (q, t)))

  pub serve-threshold : (r : Request) → (serve s r).store.threshold ≡ s.threshold
  serve-threshold r = serve-cases s r (λ v. v.store.threshold ≡ s.threshold) (record {
    unknown = λ k. refl;
    misfit = λ k b. refl;
    put = λ k lo hi. put-threshold (record { key = key_in r.body; value = some (value_in r.body) });
    delete = λ k n. put-threshold (record { key = key_in r.body; value = none });
    look = λ k n. unfold serve_look_up in rw (look-store s (look_up s (key_in r.body)));
    scan = λ k n. unfold serve_scan in cases (ltb (high_in r.body) (key_in r.body)) (λ q. rw q) (λ q. rw q);
    flush = λ k n. flush-threshold;
    tidy = λ k n. tidy-threshold;
    probe = λ k n. unfold serve_probe in refl;
    report = λ k n. unfold serve_report in refl;
  })

pub list-threshold : (s : Store) (rs : List Request) → Sound s → ((r : Request) → Memᴰ r rs → Sent r) → (serve_list s rs).threshold ≡ s.threshold
list-threshold s [] S g = refl
list-threshold s (r ∷ rs) S g =
    list-threshold (serve s r).store rs (keeps s r S (g r (Memᴰ.head refl))) (λ x m. g x (Memᴰ.tail m)) ∙ serve-threshold s S r
