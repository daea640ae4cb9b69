-- Lower-lying levels. A key that no span there holds is read of none of their tables; and whether a merge drops a mark depends on the lists,
-- cards and bytes of those levels alone. Each goes by induction on the lists.
use Prim.Native.Nat.{ℕ, suc, ◌+◌, ◌<◌}
use mathlib.Core.Path.{◌≡◌, refl, ◌∙◌, ap}
use mathlib.Core.List.{List, [], ◌∷◌, Memᴰ}
use mathlib.Core.Bool.{true, false, not, ◌||◌}
use mathlib.Core.Option.{none}
use mathlib.Core.Logic.{◌⊎◌, inl, inr}
use borrow.Author.Tests.{leb-false}
use lib.Dec.{leb}
use lib.ListN.{drop}
use lib.Seq.{get_or-drop}
use Rattle.table.specs.Entry.{Entry}
use Rattle.table.specs.Search.{find}
use Rattle.ldc.specs.Lists.{any, flat}
use Rattle.ldc.specs.Store.{Store, links, bytes_at, level, sources, span_start, span_end, span_holds}
use Rattle.ldc.specs.Read.{holds_value}
use Rattle.ldc.specs.Tidy.{lower_tables, drops_mark, comes_out}
use Rattle.ldc.proofs.Basics.Cases.{cases, not-both, neither_left, neither_right, negated}
use Rattle.ldc.proofs.Basics.ListLaws.{any_same, none-part, part_of}
use Rattle.ldc.proofs.Entries.Finds.{find-append}
use Rattle.ldc.proofs.Stores.Frame.{span_start-same, span_end-same}
use Rattle.ldc.proofs.Stores.Spans.{Readable, read-outside, reads}

-- ---- the tables of lower-lying levels

module _ (s : Store) (n : ℕ) where
  -- Each stands on a level of greater number.
  pub lower-listed : (q : ℕ) → Memᴰ q (lower_tables s n) → (j : ℕ) × Memᴰ q (level s (suc n + j))
  unfolding lower_tables level
  lower-listed q m =
      let r = part_of q (drop (suc n) s.levels) m in
      (r.0, rw (get_or-drop (suc n) s.levels r.0 []) at r.1)

  none-lower : (k j : ℕ) → any (λ p. span_holds s p k) (lower_tables s n) ≡ false → any (λ p. span_holds s p k) (level s (suc n + j)) ≡ false
  unfolding lower_tables level
  none-lower k j h =
      rw (get_or-drop (suc n) s.levels j []) at (none-part (λ p. span_holds s p k) (drop (suc n) s.levels) j h)

-- A key that a table's span does not hold is not read of it,
pub outside : (s : Store) (p k : ℕ) → span_holds s p k ≡ false → (k < span_start s p) ⊎ (span_end s p < k)
unfolding span_holds
outside s p k h =
    cases (leb (span_start s p) k)
    (λ q. inr (leb-false k (span_end s p) (not-both (leb (span_start s p) k) (leb k (span_end s p)) q h)))
    (λ q. inl (leb-false (span_start s p) k q))

-- nor of tables none of whose spans holds it,
reads-outside : (s : Store) (k : ℕ) (ps : List ℕ) → ((q : ℕ) → Memᴰ q ps → Readable s q) → any (λ p. span_holds s p k) ps ≡ false → find k (reads s ps) ≡ none
unfolding find
reads-outside s k [] r h = refl
reads-outside s k (p ∷ ps) r h =
    find-append k (flat (sources s p)) (reads s ps)
    ∙ rw (read-outside s p (r p (Memᴰ.head refl)) k (outside s p k (neither_left (span_holds s p k) (any (λ q. span_holds s q k) ps) h)))
    (reads-outside s k ps (λ q m. r q (Memᴰ.tail m)) (neither_right (span_holds s p k) (any (λ q. span_holds s q k) ps) h))

-- and so nothing is read of a lower-lying level under the key of a mark that is dropped.
pub dropped-below : (s : Store) (n j : ℕ) (e : Entry) → ((q : ℕ) → Memᴰ q (level s (suc n + j)) → Readable s q) → drops_mark s n e ≡ true
    → find e.key (reads s (level s (suc n + j))) ≡ none
unfolding drops_mark
dropped-below s n j e r h =
    reads-outside s e.key (level s (suc n + j)) r (none-lower s n e.key j (negated (any (λ p. span_holds s p e.key) (lower_tables s n)) h))

-- ---- what the drop depends on

module _ (s s' : Store) (n : ℕ) (lists : lower_tables s' n ≡ lower_tables s n)
    (same : (q : ℕ) → Memᴰ q (lower_tables s n) → (links s' q ≡ links s q) × (bytes_at s' q ≡ bytes_at s q)) where
  pub drops_same : (e : Entry) → drops_mark s' n e ≡ drops_mark s n e
  unfolding drops_mark span_holds
  drops_same e =
      ap not
      (ap (any (λ p. span_holds s' p e.key)) lists
      ∙ any_same (λ p. span_holds s' p e.key) (λ p. span_holds s p e.key) (lower_tables s n)
      (λ q m. let c = same q m in rw (span_start-same s s' q c.0 c.1, span_end-same s s' q c.0 c.1)))

  pub comes-same : comes_out s' n ≡ comes_out s n
  unfolding comes_out
  comes-same = λ i e. holds_value e || not (drops_same e i)
