-- A link changes no answer: what the chosen table gave, its level and the one below give together.
use Prim.Native.Nat.{ℕ, zero, suc, ◌≤◌, ◌^◌}
use mathlib.Core.Path.{◌≡◌, refl, sym, ◌∙◌, ap, ap₂}
use mathlib.Core.List.{List, [], ◌∷◌, reverse, Memᴰ}
use mathlib.Core.Bool.{false}
use native.Mathlib.Omega.{arith}
use borrow.Author.Tests.{le-leb}
use Rattle.table.specs.Entry.{Entry}
use Rattle.table.specs.Search.{find}
use Rattle.table.specs.Valid.{Keys}
use Rattle.ldc.specs.Lists.{flat, is_empty}
use Rattle.ldc.specs.Store.{Store, card, links, table, level, sources, within}
use Rattle.ldc.specs.Tidy.{greatest, slices_of}
use Rattle.ldc.specs.Steps.{replaced, do_link}
use Rattle.ldc.proofs.Basics.Cases.{clash}
use Rattle.ldc.proofs.Stores.CardFacts.{live-not-free}
use Rattle.ldc.proofs.Stores.Facts.{listed-live, listed-readable, level-spans, table-readable}
use Rattle.ldc.proofs.Entries.Finds.{or_else, or_else-assoc}
use Rattle.ldc.proofs.Stores.Frame.{map-cong, table_same, sources-same, reads_same}
use Rattle.ldc.proofs.Stores.Hang.{gains}
use Rattle.ldc.proofs.Steps.LinkReads.{find-from, link-reads}
use Rattle.ldc.proofs.Steps.LinkShape.{link-links, link-memory, link-places, link-bytes, link-elsewhere, link-from, link-other, link-assigned}
use Rattle.ldc.proofs.Steps.Move.{replaced-member}
use Rattle.ldc.proofs.Stores.Order.{newest, view, given, view-two}
use Rattle.ldc.proofs.Steps.Ranges.{Assigned}
use Rattle.ldc.proofs.Stores.Sound.{Sound}
use Rattle.ldc.proofs.Stores.Spans.{reads}
use Rattle.ldc.proofs.Stores.TakenOut.{given_but, taken_out}
use Rattle.ldc.specs.Facts.{Spans, Oldest}

module _ (s : Store) (S : Sound s) (n p : ℕ) (below : n ≤ 2) (m : Memᴰ p (level s n)) (bare : links s p ≡ []) (some_below : is_empty (level s (suc n)) ≡ false) where
  abbrev after : Store
  after = do_link n p (slices_of s n p) s

  abbrev es : List Entry
  es = table s p

  level-left : (i : ℕ) → i ≡ n → level after i ≡ replaced p [] (level s i)
  level-left i e = rw e (link-from s S n p m bare (omega (arith, S.four)))

  newest-same : (ps : List ℕ) → newest after ps ≡ newest s ps
  newest-same ps = ap flat (map-cong (table after) (table s) (reverse ps) (λ q _. table_same s after q (link-bytes s S n p m bare q)))

  link-sources : (i q : ℕ) → (i ≡ suc n → ⊥) → Memᴰ q (level s i) → sources after q ≡ sources s q
  link-sources i q d h = sources-same s after q (link-elsewhere s S n p m bare i q d h) (link-bytes s S n p m bare q) (λ l _. link-bytes s S n p m bare l.place)

  -- what is left of the level above
  link-upper : (k i : ℕ) → i ≡ n → given after i k ≡ given_but s i p k
  link-upper k zero e = ap (find k) (newest-same (level after 0) ∙ ap (newest s) (level-left 0 e))
  link-upper k (suc i) e =
      ap (find k)
      (ap (reads after) (level-left (suc i) e)
      ∙ reads_same s after (replaced p [] (level s (suc i))) (λ q h. link-sources (suc i) q (λ x. omega arith) (replaced-member q p (level s (suc i)) (rw e m) h)))

  -- what the level below gives: the chosen table's entry, else what it gave before
  link-lower : (k : ℕ) → given after (suc n) k ≡ or_else (find k es) (given s (suc n) k)
  link-lower k = ap (λ (qs : List ℕ). find k (reads after qs)) (link-other s S n p m bare (suc n) (λ x. omega arith)) ∙ lower (level s (suc n)) some_below (λ q h. h) (level-spans s S n) (link-assigned s S n p m bare)
    where
      same : after.places ≡ s.places
      same = link-places s S n p m bare

      assigned : Assigned s (λ q. gains (table s p) q (slices_of s n p)) es p 0 (level s (suc n))
      assigned = link-assigned s S n p m bare

      keys : Keys 0 (2 ^ 64) es
      keys = (table-readable s S p (live-not-free (card s p) (listed-live s S n p m))).keys

      all_from : find k (within 0 greatest es) ≡ find k es
      all_from = let r = find-from s after same p keys k 0 in rw (le-leb 0 k (omega arith)) at r

      lower : (qs : List ℕ) → is_empty qs ≡ false → ((q : ℕ) → Memᴰ q qs → Memᴰ q (level s (suc n))) → Spans s 0 qs → Assigned s (λ q. gains (table s p) q (slices_of s n p)) es p 0 qs
          → find k (reads after qs) ≡ or_else (find k es) (find k (reads s qs))
      lower [] e on sp a = clash refl e
      lower (q ∷ qs) e on sp a =
          link-reads s after same p keys k 0 q qs (λ q. gains (table s p) q (slices_of s n p)) (λ x h. listed-readable s S (suc n) x (on x h)) (λ x _. link-links s S n p m bare x) sp a
          ∙ ap (λ o. or_else o (find k (reads s (q ∷ qs)))) all_from

  link-given : (k i : ℕ) → (i ≡ n → ⊥) → (i ≡ suc n → ⊥) → given after i k ≡ given s i k
  link-given k zero a b = ap (find k) (newest-same (level after 0) ∙ ap (newest s) (link-other s S n p m bare 0 a))
  link-given k (suc i) a b =
      ap (find k) (ap (reads after) (link-other s S n p m bare (suc i) a) ∙ reads_same s after (level s (suc i)) (λ q h. link-sources (suc i) q b h))

  pub view-link : (k : ℕ) → Oldest s n p → view (do_link n p (slices_of s n p) s) k ≡ view s k
  view-link k oldest =
      view-two s (do_link n p (slices_of s n p) s) k n below (link-memory s S n p m bare) (λ i a b. link-given k i a b)
      (λ rest. ap₂ or_else (link-upper k n refl) (ap (λ o. or_else o rest) (link-lower k) ∙ or_else-assoc (find k es) (given s (suc n) k) rest)
      ∙ sym (taken_out s S n p m bare oldest k (or_else (given s (suc n) k) rest)))
