-- What is read of a store does not depend on the bytes of its free places: live tables stand in lists and links name frozen ones, so that
-- every table that is read is the same. Answers and the step that is due follow, by the cases of what each find gave.
use Prim.Native.Nat.{ℕ, suc, ◌+◌}
use mathlib.Core.Path.{◌≡◌, refl, ◌∙◌, ap}
use mathlib.Core.List.{List, [], ◌∷◌, map, reverse, Memᴰ}
use mathlib.Core.Option.{Option, some, none}
use lib.ListN.{get_or}
use Rattle.ldc.specs.Lists.{first, is_empty}
use Rattle.ldc.specs.Store.{Link, Store, card, links, bytes_at, table, level, mark, slice, sources, span_end}
use Rattle.ldc.specs.Request.{Request}
use Rattle.ldc.specs.Read.{read_order, look_up, contents}
use Rattle.ldc.specs.Tidy.{lower_tables, comes_out, merged_entries, merged_tables, merge_step, due, due_table, overfull, passed, round, responsible, holding, slices_of, down_step, tidy_step}
use Rattle.ldc.specs.History.{step_of}
use Rattle.ldc.proofs.Serving.Alike.{Alike, alike_is, links-alike, level-alike, mark-alike, free_places-alike}
use Rattle.ldc.proofs.Basics.Cases.{maybe}
use Rattle.ldc.proofs.Stores.CardFacts.{live-not-free, frozen-not-free}
use Rattle.ldc.proofs.Stores.Facts.{listed-live, link-frozen}
use Rattle.ldc.proofs.Basics.ListLaws.{mem-get_or, first-same}
use Rattle.ldc.proofs.Stores.Frame.{map-cong, table_same, slice-same, span_end-same, sources-same}
use Rattle.ldc.proofs.Stores.Lower.{lower-listed, comes-same}
use Rattle.ldc.proofs.Steps.Ranges.{reaches}
use Rattle.ldc.proofs.Basics.Replaced.{member-reverse}
use Rattle.ldc.proofs.Stores.Sound.{Sound}
use Rattle.ldc.proofs.Steps.StepFacts.{due-merging, full-merging, chosen}

-- Tables are passed by their least own keys.
passed-same : (s s' : Store) (mark : Option ℕ) (ps : List ℕ) → ((p : ℕ) → Memᴰ p ps → table s' p ≡ table s p) → passed s' mark ps ≡ passed s mark ps
passed-same s s' none ps h = refl
passed-same s s' (some k) [] h = refl
passed-same s s' (some k) (p ∷ ps) h =
    rw (h p (Memᴰ.head refl), passed-same s s' (some k) ps (λ q m. h q (Memᴰ.tail m)))

module _ (s s' : Store) (S : Sound s) (a : Alike s s') where
  -- ---- tables and slices

  pub listed-bytes : (n p : ℕ) → Memᴰ p (level s n) → bytes_at s' p ≡ bytes_at s p
  listed-bytes n p m = a.same_bytes p (live-not-free (card s p) (listed-live s S n p m))

  pub linked-bytes : (p : ℕ) (l : Link) → Memᴰ l (links s p) → bytes_at s' l.place ≡ bytes_at s l.place
  linked-bytes p l m = a.same_bytes l.place (frozen-not-free (card s l.place) (link-frozen s S p l m))

  pub slice-alike : (p : ℕ) (l : Link) → Memᴰ l (links s p) → slice s' l ≡ slice s l
  slice-alike p l m = slice-same s s' l (linked-bytes p l m)

  module _ (n p : ℕ) (m : Memᴰ p (level s n)) where
    pub table-alike : table s' p ≡ table s p
    table-alike = table_same s s' p (listed-bytes n p m)

    pub span_end-alike : span_end s' p ≡ span_end s p
    span_end-alike = span_end-same s s' p (links-alike s s' a p) (listed-bytes n p m)

    pub sources-alike : sources s' p ≡ sources s p
    sources-alike = sources-same s s' p (links-alike s s' a p) (listed-bytes n p m) (linked-bytes p)

  -- ---- answers

  newest-alike : map (table s') (reverse (level s' 0)) ≡ map (table s) (reverse (level s 0))
  newest-alike =
      ap (λ ps. map (table s') (reverse ps)) (level-alike s s' a 0)
      ∙ map-cong (table s') (table s) (reverse (level s 0)) (λ p m. table-alike 0 p (member-reverse p (level s 0) m))

  reads-alike : (n : ℕ) → map (sources s') (level s' n) ≡ map (sources s) (level s n)
  reads-alike n = ap (map (sources s')) (level-alike s s' a n) ∙ map-cong (sources s') (sources s) (level s n) (sources-alike n)

  pub read_order-alike : read_order s' ≡ read_order s
  unfolding read_order
  read_order-alike = cc (newest-alike, reads-alike 1, reads-alike 2, reads-alike 3, a.same_memory)

  pub look_up-alike : (k : ℕ) → look_up s' k ≡ look_up s k
  unfolding look_up
  look_up-alike k = rw read_order-alike

  pub contents-alike : contents s' ≡ contents s
  unfolding contents
  contents-alike = rw read_order-alike

  -- ---- the step that is due

  -- a due table is one of a level, and its entries are counted there
  dues-alike : (n : ℕ) → first (due s') (level s' n) ≡ first (due s) (level s n)
  unfolding due
  dues-alike n =
      rw (level-alike s s' a n)
      (first-same (due s') (due s) (level s n) 0
      (λ i h. let p : ℕ = get_or (level s n) i 0 in
      rw (links-alike s s' a p, table-alike n p (mem-get_or (level s n) i 0 h), a.same-threshold)))

  due-alike : due_table s' ≡ due_table s
  unfolding due_table
  due-alike = rw (dues-alike 1, dues-alike 2, dues-alike 3)

  overfull-alike : overfull s' ≡ overfull s
  unfolding overfull level
  overfull-alike = ap overfull (alike_is s s' a)

  round-alike : (n : ℕ) → round s' n ≡ round s n
  unfolding round
  round-alike n =
      rw (level-alike s s' a n, mark-alike s s' a n, passed-same s s' (mark s n) (level s n) (table-alike n))

  bare_alike : (n : ℕ) → first (λ p. is_empty (links s' p)) (round s' n) ≡ first (λ p. is_empty (links s p)) (round s n)
  unfolding links card
  bare_alike n = ap (λ x. first (λ p. is_empty (links x p)) (round s' n)) (alike_is s s' a) ∙ ap (first (λ p. is_empty (links s p))) (round-alike n)

  lower-alike : (n : ℕ) → lower_tables s' n ≡ lower_tables s n
  unfolding lower_tables
  lower-alike n = ap (λ x. lower_tables x n) (alike_is s s' a)

  module _ (n p : ℕ) (m : Memᴰ p (level s n)) where
    -- the tables of lower-lying levels are listed, so their spans are the same
    comes-alike : comes_out s' n ≡ comes_out s n
    comes-alike =
        comes-same s s' n (lower-alike n)
        (λ q h. let t = lower-listed s n q h in (links-alike s s' a q, listed-bytes (suc n + t.0) q t.1))

    pub merged-alike : merged_tables s' n p ≡ merged_tables s n p
    unfolding merged_tables merged_entries
    merged-alike = rw (sources-alike n p m, comes-alike)

    merge_step-alike : merge_step s' n p ≡ merge_step s n p
    unfolding merge_step
    merge_step-alike = rw (merged-alike, free_places-alike s s' a)

    pub slices_of-alike : slices_of s' n p ≡ slices_of s n p
    unfolding slices_of
    slices_of-alike =
        let e : reaches s' (level s (suc n)) ≡ reaches s (level s (suc n)) =
        map-cong (λ q. record { place = q; end = span_end s' q }) (λ q. record { place = q; end = span_end s q }) (level s (suc n))
        (λ q h. rw (span_end-alike (suc n) q h)) in
        rw (level-alike s s' a (suc n), table-alike n p m) (ap (λ rs. holding (table s p) (responsible p 0 rs)) e)

    down_step-alike : down_step s' n p ≡ down_step s n p
    unfolding down_step
    down_step-alike = rw (level-alike s s' a (suc n), slices_of-alike)

  pub tidy_step-alike : tidy_step s' ≡ tidy_step s
  unfolding tidy_step
  tidy_step-alike =
      rw (due-alike)
      (maybe (due_table s)
      (λ d. rw (d, overfull-alike)
      (maybe (overfull s)
      (λ o. rw o)
      (λ n o. rw (o, bare_alike n)
      (maybe (first (λ p. is_empty (links s p)) (round s n))
      (λ f. rw (f, round-alike n) (merge_step-alike n (get_or (round s n) 0 0) (full-merging s S n o f).on))
      (λ p f. rw f (down_step-alike n p (chosen s S n p d o f).on))))))
      (λ t d. rw d (merge_step-alike t.on t.place (due-merging s S t d).on)))

  pub step_of-alike : (r : Request) → step_of s' r ≡ step_of s r
  unfolding step_of
  step_of-alike r = rw tidy_step-alike
