-- Every request keeps the keys of marks and links below 2^64. A mark is set to a table's own key. A link is made with a range that ends at the
-- greatest key or at a span's end, which is one of a table's own keys or of its links' ends. No other step makes a mark or a link.
use Prim.Native.Nat.{ℕ, zero, suc, ◌<◌, ◌^◌}
use mathlib.Core.Path.{◌≡◌, refl}
use mathlib.Core.List.Memᴰ
use mathlib.Core.List.{List, [], ◌∷◌, Memᴰ}
use mathlib.Core.Bool.{Bool, not, ◌||◌}
use mathlib.Core.Logic.{⊎_elim}
use mathlib.Core.Option.{Option, some, none}
use native.Mathlib.Omega.{arith}
use borrow.Author.Tests.{eqb-false}
use lib.Dec.{ltb, eqb}
use lib.ListN.{length, set}
use Rattle.table.specs.Entry.{Entry}
use Rattle.table.specs.Limits.{table_limit}
use Rattle.table.specs.Search.{find, greatest_key}
use Rattle.ldc.specs.Lists.{is_empty, is_some, keep}
use Rattle.ldc.specs.Store.{Link, frozen, Store, new_store, card, links, level, table, within, span_end, greatest_end, with_card}
use Rattle.ldc.specs.Request.{Request, key_in, high_in, value_in}
use Rattle.ldc.specs.Memtable.{serve_put}
use Rattle.ldc.specs.Place.{written, flushed, free_places, serve_flush}
use Rattle.ldc.specs.Read.{look_up, serve_look_up, serve_scan, serve_report}
use Rattle.ldc.specs.Probe.{serve_probe}
use Rattle.ldc.specs.Tidy.{Slice, Step, idle, refused, moved, linked, merged, tidy_step, responsible, slices_of}
use Rattle.ldc.specs.Steps.{marks_after, link_to, leaves, do_move, do_link, step_served, serve_tidy}
use Rattle.ldc.specs.Serve.{serve}
use Rattle.ldc.proofs.Basics.Cases.{cases}
use Rattle.ldc.proofs.Stores.Facts.{listed-readable, link-order}
use Rattle.ldc.proofs.Stores.Fits.{Fits}
use Rattle.ldc.proofs.Stores.Hang.{gains, hang-beside}
use Rattle.ldc.proofs.Stores.New.{new-links}
use Rattle.ldc.proofs.Stores.Sound.{Sound}
use Rattle.ldc.proofs.Stores.Spans.{greatest-high}
use Rattle.ldc.proofs.Stores.Written.{member-map}
use Rattle.ldc.proofs.Steps.Flush.{flush-links}
use Rattle.ldc.proofs.Steps.LinkShape.{link-links}
use Rattle.ldc.proofs.Steps.MergeShape.{merge-was, merge-marks}
use Rattle.ldc.proofs.Steps.Ranges.{reaches}
use Rattle.ldc.proofs.Steps.StepFacts.{keep-member, step-moved, step-linked, step-merged}
use Rattle.ldc.proofs.Serving.Keeps.{some-length, look-store}
use Rattle.ldc.proofs.Serving.ServeCases.{serve-cases}
use Rattle.ldc.proofs.Serving.Splits.{Sent}

no-some : {k : ℕ} → Memᴰ (some k) (none ∷ none ∷ []) → ⊥
no-some m =
    ⊎_elim (λ e. absurd (let z : ◌≡◌ {A = ℕ} 0 1 = cc in omega arith))
    (λ t. ⊎_elim (λ e. absurd (let z : ◌≡◌ {A = ℕ} 0 1 = cc in omega arith)) (λ u. Memᴰ.not-nil u) (Memᴰ.cases_cons t))
    (Memᴰ.cases_cons m)

pub fits-new : (t : ℕ) (places : List (List ℕ)) → Fits (new_store t places)
fits-new t places = record {
  marks = unfold new_store in (λ k m. absurd (no-some m));
  links = λ p l m. absurd (Memᴰ.not-nil (rw (new-links t places p) at m));
}

-- A change that leaves marks and links.
same-fits : (s s' : Store) → s'.marks ≡ s.marks → ((p : ℕ) → links s' p ≡ links s p) → Fits s → Fits s'
same-fits s s' e h f = record {
  marks = λ k m. f.marks k (rw e at m);
  links = λ p l m. f.links p l (rw (h p) at m);
}

-- ---- marks

-- One mark replaced.
set_below : (ms : List (Option ℕ)) (i g : ℕ) → g < 2 ^ 64 → ((k : ℕ) → Memᴰ (some k) ms → k < 2 ^ 64)
    → (k : ℕ) → Memᴰ (some k) (set ms i (some g)) → k < 2 ^ 64
set_below [] i g b h k m = absurd (Memᴰ.not-nil m)
set_below (x ∷ ms) zero g b h k m =
    ⊎_elim (λ e. let q : k ≡ g = cc in rw q b) (λ t. h k (Memᴰ.tail t)) (Memᴰ.cases_cons m)
set_below (x ∷ ms) (suc i) g b h k m =
    ⊎_elim (λ e. h k (Memᴰ.head e)) (λ t. set_below ms i g b (λ j u. h j (Memᴰ.tail u)) k t) (Memᴰ.cases_cons m)

marks-below : (n p : ℕ) (s : Store) → greatest_key (table s p) < 2 ^ 64 → Fits s → (k : ℕ) → Memᴰ (some k) (marks_after n p s) → k < 2 ^ 64
marks-below zero p s b f k m = f.marks k m
marks-below (suc n) p s b f k m = set_below s.marks n (greatest_key (table s p)) b f.marks k m

-- ---- ends of ranges

greatest_end-below : (g high : ℕ) (ls : List Link) → g < high → ((l : Link) → Memᴰ l ls → (l.low < high) × (l.high < high)) → greatest_end g ls < high
greatest_end-below g high [] b h = b
greatest_end-below g high (l ∷ ls) b h =
    let a = h l (Memᴰ.head refl) in
    omega (arith, a.0, a.1, greatest_end-below g high ls b (λ x m. h x (Memᴰ.tail m)))

ranges-below : (s : Store) (p from : ℕ) (qs : List ℕ) → ((q : ℕ) → Memᴰ q qs → span_end s q < 2 ^ 64)
    → (x : Slice) → Memᴰ x (responsible p from (reaches s qs)) → x.high < 2 ^ 64
ranges-below s p from [] h x m = absurd (Memᴰ.not-nil m)
ranges-below s p from (q ∷ []) h x m =
    ⊎_elim (λ e. rw e (omega arith)) (λ t. absurd (Memᴰ.not-nil t)) (Memᴰ.cases_cons m)
ranges-below s p from (q ∷ r ∷ qs) h x m =
    ⊎_elim (λ e. rw e (h q (Memᴰ.head refl)))
    (λ t. ranges-below s p (suc (span_end s q)) (r ∷ qs) (λ y u. h y (Memᴰ.tail u)) x t) (Memᴰ.cases_cons m)

module _ (s : Store) (S : Sound s) (f : Fits s) where
  key_below : (n p : ℕ) → Memᴰ p (level s n) → greatest_key (table s p) < 2 ^ 64
  key_below n p m = let r = listed-readable s S n p m in greatest-high 0 (2 ^ 64) (table s p) r.some r.keys

  span_below : (n p : ℕ) → Memᴰ p (level s n) → span_end s p < 2 ^ 64
  unfolding span_end
  span_below n p m =
      greatest_end-below (greatest_key (table s p)) (2 ^ 64) (links s p) (key_below n p m)
      (λ l k. (omega (arith, link-order s S p l k, f.links p l k), f.links p l k))

  slice-below : (n p : ℕ) (x : Slice) → Memᴰ x (slices_of s n p) → x.high < 2 ^ 64
  unfolding slices_of
  slice-below n p x m =
      let t : Slice → Bool = λ r. not (is_empty (within r.low r.high (table s p))) in
      ranges-below s p 0 (level s (suc n)) (span_below (suc n)) x
      (keep-member t (responsible p 0 (reaches s (level s (suc n)))) x m).0

  gains-below : (n p q : ℕ) (l : Link) → Memᴰ l (gains (table s p) q (slices_of s n p)) → l.high < 2 ^ 64
  gains-below n p q l m =
      let t : Slice → Bool = λ r. eqb r.on q in
      let w = member-map (link_to (table s p)) l (keep t (slices_of s n p)) m in
      rw w.1.1 (slice-below n p w.0 (keep-member t (slices_of s n p) w.0 w.1.0).0)

  -- ---- the steps

  move-fits : (n p : ℕ) → Memᴰ p (level s n) → Fits (do_move n p s)
  move-fits n p m = record {
    marks = unfold do_move leaves in marks-below n p s (key_below n p m) f;
    links = unfold do_move leaves links card in f.links;
  }

  link-marked : (n p : ℕ) (xs : List Slice) → (do_link n p xs s).marks ≡ marks_after n p s
  unfolding do_link leaves
  link-marked n p xs = (hang-beside (table s p) xs (with_card p frozen (leaves n p s))).same-marks

  link_fits : (n p : ℕ) → Memᴰ p (level s n) → links s p ≡ [] → Fits (do_link n p (slices_of s n p) s)
  link_fits n p m bare = record {
    marks = rw (link-marked n p (slices_of s n p)) (marks-below n p s (key_below n p m) f);
    links = λ q l h. ⊎_elim (f.links q l) (gains-below n p q l) (Memᴰ.append_cases (links s q) (rw (link-links s S n p m bare q) at h));
  }

  tidy-fits : Fits (serve_tidy s).store
  unfolding serve_tidy
  tidy-fits = step_fits (tidy_step s) refl
    where
      step_fits : (t : Step) → tidy_step s ≡ t → Fits (step_served t s).store
      step_fits idle e = f
      step_fits refused e = f
      step_fits (moved n p) e = move-fits n p (step-moved s S n p e).chosen.on
      step_fits (linked n p xs) e =
          let d = step-linked s S n p xs e in rw d.slices (link_fits n p d.chosen.on d.chosen.bare)
      step_fits (merged n p) e =
          let d = step-merged s S n p e in
          record {
            marks = rw (merge-marks s S n p d.merging.on d.room) f.marks;
            links = λ q l m. f.links q l (merge-was s S n p d.merging.on d.room q l m).1;
          }

  flush-fits : Fits (serve_flush s).store
  unfolding serve_flush
  flush-fits =
      cases (is_empty s.memory)
      (λ q. rw q f)
      (λ q. cases (eqb (free_places s) 0)
      (λ t. rw (q, t) f)
      (λ t. let d = eqb-false (free_places s) 0 t in
      rw (q, t) (same-fits s (flushed s) (unfold flushed written in refl) (flush-links s S (some-length s.memory q) (omega arith)) f)))

  put-fits : (e : Entry) → Fits (serve_put s e).store
  unfolding serve_put links card
  put-fits e = cases (is_some (find e.key s.memory) || ltb (length s.memory) table_limit)
      (λ q. rw q (record { marks = f.marks; links = f.links }))
      (λ q. rw q f)

pub fits-keeps : (s : Store) (r : Request) → Sound s → Fits s → Sent r → Fits (serve s r).store
fits-keeps s r S f g = serve-cases s r (λ v. Fits v.store) (record {
  unknown = λ k. f;
  misfit = λ k b. f;
  put = λ k lo hi. put-fits s S f (record { key = key_in r.body; value = some (value_in r.body) });
  delete = λ k n. put-fits s S f (record { key = key_in r.body; value = none });
  look = λ k n. unfold serve_look_up in rw (look-store s (look_up s (key_in r.body))) f;
  scan = λ k n. unfold serve_scan in cases (ltb (high_in r.body) (key_in r.body)) (λ q. rw q f) (λ q. rw q f);
  flush = λ k n. flush-fits s S f;
  tidy = λ k n. tidy-fits s S f;
  probe = λ k n. unfold serve_probe in f;
  report = λ k n. unfold serve_report in f;
})
