-- A flush keeps a store sound and changes no answer: the memory table moves, whole, to the newest place of level 0.
use Prim.Native.Nat.{ℕ, suc, ◌≤◌}
use mathlib.Core.Path.{◌≡◌, sym, ◌∙◌, ap, ap₂}
use mathlib.Core.List.{List, [], ◌∷◌, ◌++◌, reverse, reverse-append, Memᴰ}
use mathlib.Core.Bool.{true, false}
use mathlib.Core.Logic.{⊎_elim}
use native.Mathlib.Omega.{arith}
use borrow.Author.Tests.{lt-ltb}
use lib.Dec.{ltb, eqb}
use lib.ListN.{length, set, length-set}
use lib.Seq.{get_or-set_same, get_or-set_other}
use Rattle.table.specs.Entry.{Entry}
use Rattle.table.specs.Search.{find}
use Rattle.table.specs.Table.{entries}
use Rattle.ldc.specs.Lists.{how_many, flat}
use Rattle.ldc.specs.Store.{Link, Store, size, card, links, is_free, is_live, is_frozen, bytes_at, table, level, sources}
use Rattle.ldc.specs.Rules.{rule_a, threshold_good, times_listed, link_good, hung_on}
use Rattle.ldc.specs.Place.{place_taken, written, flushed, free_places}
use Rattle.ldc.proofs.Basics.Cases.{both}
use Rattle.ldc.proofs.Stores.CardFacts.{live-not-free, frozen-not-free, free-not-live, no-links}
use Rattle.ldc.proofs.Basics.Counts.{one, total-set, how_many-append, how_many-flat, member-counted}
use Rattle.ldc.proofs.Stores.Facts.{cursor-sound, threshold-sound, listed-total, listed-live, link-frozen}
use Rattle.ldc.proofs.Entries.Finds.{or_else-assoc, find-append}
use Rattle.ldc.proofs.Stores.Frame.{map-cong, hung_in-same, spans_rise-same, link_good-same, sources-same, reads_same, table_same}
use Rattle.ldc.proofs.Stores.Naming.{named-same}
use Rattle.ldc.proofs.Stores.Order.{newest, view, view-parts}
use Rattle.ldc.proofs.Basics.Replaced.{member-reverse}
use Rattle.ldc.proofs.Stores.Sound.{Sound, TablePlace}
use Rattle.ldc.proofs.Stores.Spans.{reads}
use Rattle.ldc.proofs.Stores.TableLaws.{entries-table_bytes, table_bytes-place}
use Rattle.ldc.proofs.Stores.Written.{Wrote, wrote, bytes-written-same, wrote-card, wrote-bytes, wrote-links, wrote-frozen, wrote-stored, taken-or-kept}

module _ (s : Store) (S : Sound s) (n : 1 ≤ length s.memory) (f : 1 ≤ free_places s) where
  w : Wrote s (written s.memory s) (place_taken s ∷ []) (s.memory ∷ [])
  w = wrote (s.memory ∷ []) s (cursor-sound s S.rule_a-kept) f S.placed

  -- the new table
  new-place : (q : ℕ) → 1 ≤ how_many (eqb q) (place_taken s ∷ []) → TablePlace (bytes_at (written s.memory s) q)
  new-place q h =
      let r = wrote-stored s (written s.memory s) (place_taken s ∷ []) (s.memory ∷ []) w q h in
      rw r.1.1 (rw (mathlib.Core.List.Memᴰ.eq_of_singleton r.1.0) (table_bytes-place s.memory S.memory n))

  flush-listed : (q : ℕ) → times_listed (flushed s) q ≡ one (is_live (card (flushed s) q))
  unfolding flushed times_listed card level written
  flush-listed q =
      let t = total-set (how_many (eqb q)) s.levels 0 (level s 0 ++ (place_taken s ∷ [])) [] (omega (arith, S.four)) in
      let a = how_many-append (eqb q) (level s 0) (place_taken s ∷ []) in
      let c = w.counted q in
      let l = listed-total s S q in
      how_many-flat (eqb q) (set s.levels 0 (level s 0 ++ (place_taken s ∷ []))) ∙ omega arith

  flush-tables : (q : ℕ) → is_free (card (flushed s) q) ≡ false → TablePlace (bytes_at (flushed s) q)
  unfolding flushed card bytes_at
  flush-tables q h =
      taken-or-kept s (written s.memory s) (place_taken s ∷ []) (s.memory ∷ []) w q
      (λ t. new-place q t)
      (λ k. let r = w.kept q k in rw r.1 (S.tables q (rw r.0 at h)))

  pub flush-links : (q : ℕ) → links (flushed s) q ≡ links s q
  unfolding flushed card links
  flush-links q = wrote-links s (written s.memory s) (place_taken s ∷ []) (s.memory ∷ []) w q

  pub flush-bytes : (q : ℕ) → is_free (card s q) ≡ false → bytes_at (flushed s) q ≡ bytes_at s q
  unfolding flushed bytes_at
  flush-bytes q h = wrote-bytes s (written s.memory s) (place_taken s ∷ []) (s.memory ∷ []) w q h

  flush-card : (q : ℕ) → is_free (card s q) ≡ false → card (flushed s) q ≡ card s q
  unfolding flushed card
  flush-card q h = wrote-card s (written s.memory s) (place_taken s ∷ []) (s.memory ∷ []) w q h

  flush-level : (m : ℕ) → level (flushed s) (suc m) ≡ level s (suc m)
  unfolding flushed level written
  flush-level m = get_or-set_other s.levels 0 (suc m) (level s 0 ++ (place_taken s ∷ [])) [] (λ e. omega arith)

  flush-zero : level (flushed s) 0 ≡ level s 0 ++ (place_taken s ∷ [])
  unfolding flushed level written
  flush-zero = get_or-set_same s.levels 0 (level s 0 ++ (place_taken s ∷ [])) [] (omega (arith, S.four))

  free-links : (p : ℕ) → is_free (card s p) ≡ true → links s p ≡ []
  unfolding links
  free-links p h = no-links (card s p) (free-not-live (card s p) h)

  flush-bare : (q : ℕ) → Memᴰ q (level (flushed s) 0) → links (flushed s) q ≡ []
  flush-bare q m =
      flush-links q
      ∙ ⊎_elim
      (λ a. S.bare q a)
      (λ b. let c = w.new q (member-counted q (place_taken s ∷ []) b) in
      free-links q c.0)
      (mathlib.Core.List.Memᴰ.append_cases (level s 0) (rw flush-zero at m))

  flush-hung : (q : ℕ) (l : Link) → Memᴰ l (links (flushed s) q) → link_good (flushed s) l ≡ true
  flush-hung q l m =
      let m' : Memᴰ l (links s q) = rw (flush-links q) at m in
      let o : is_free (card s l.place) ≡ false = frozen-not-free (card s l.place) (link-frozen s S q l m') in
      link_good-same s (flushed s) l (flush-card l.place o) (flush-bytes l.place o) ∙ S.hung q l m'

  hung-same : (m : ℕ) → hung_on (flushed s) (suc m) ≡ hung_on s (suc m)
  unfolding hung_on
  hung-same m = rw (flush-level m) (hung_in-same s (flushed s) (suc m) (level s (suc m)) (λ p _. flush-links p))

  flush-frozen : (q : ℕ) → is_frozen (card (flushed s) q) ≡ is_frozen (card s q)
  unfolding flushed card
  flush-frozen q = wrote-frozen s (written s.memory s) (place_taken s ∷ []) (s.memory ∷ []) w q

  live_same : (m q : ℕ) → Memᴰ q (level s m) → is_free (card s q) ≡ false
  live_same m q h = live-not-free (card s q) (listed-live s S m q h)

  flush-size : size (flushed s) ≡ size s
  unfolding flushed size
  flush-size = w.same_size

  flush-rule_a : rule_a (flushed s) ≡ true
  unfolding flushed rule_a size written
  flush-rule_a =
      both (threshold_good s.threshold) (ltb (written s.memory s).cursor (size (written s.memory s)))
      (threshold-sound s S.rule_a-kept) (lt-ltb (written s.memory s).cursor (size (written s.memory s)) w.in-range)

  pub sound-flush : Sound (flushed s)
  sound-flush = record {
    fewest = rw flush-size S.fewest;
    most = rw flush-size S.most;
    placed = unfold flushed size in w.same-placed;
    four = unfold flushed written in length-set s.levels 0 (level s 0 ++ (place_taken s ∷ [])) ∙ S.four;
    two = unfold flushed written in S.two;
    rule_a-kept = flush-rule_a;
    listed = flush-listed;
    tables = flush-tables;
    memory = unfold flushed in record { keys = omega arith; values = tt; few = omega arith };
    bare = flush-bare;
    few = λ q. rw (flush-links q) (unfold flushed written in S.few q);
    hung = flush-hung;
    disjoint = rw (hung-same 0, hung-same 1, hung-same 2) S.disjoint;
    naming = λ q. flush-frozen q ∙ S.naming q ∙ sym (named-same s (flushed s) q flush-links);
    rising = λ m. rw (flush-level m)
        (spans_rise-same s (flushed s) (level s (suc m)) (λ p h. (flush-links p, flush-bytes p (live_same (suc m) p h))) ∙ S.rising m);
  }

  -- ---- no answer changes

  flush-sources : (m q : ℕ) → Memᴰ q (level s m) → sources (flushed s) q ≡ sources s q
  flush-sources m q h =
      sources-same s (flushed s) q (flush-links q) (flush-bytes q (live_same m q h))
      (λ l k. flush-bytes l.place (frozen-not-free (card s l.place) (link-frozen s S q l k)))

  flush-reads : (m : ℕ) → reads (flushed s) (level (flushed s) (suc m)) ≡ reads s (level s (suc m))
  flush-reads m = rw (flush-level m) (reads_same s (flushed s) (level s (suc m)) (flush-sources (suc m)))

  new-table : table (flushed s) (place_taken s) ≡ s.memory
  unfolding table bytes_at flushed
  new-table =
      ap entries (bytes-written-same s.memory s (cursor-sound s S.rule_a-kept) f S.placed)
      ∙ entries-table_bytes s.memory S.memory

  flush-newest : newest (flushed s) (level (flushed s) 0) ≡ s.memory ++ newest s (level s 0)
  flush-newest =
      rw (flush-zero, reverse-append (level s 0) (place_taken s ∷ []))
      (ap₂ (λ (es fs : List Entry). es ++ fs)
      (new-table)
      (ap flat (map-cong (table (flushed s)) (table s) (reverse (level s 0))
      (λ q m. table_same s (flushed s) q (flush-bytes q (live_same 0 q (member-reverse q (level s 0) m)))))))

  pub view-flush : (k : ℕ) → view (flushed s) k ≡ view s k
  unfolding flushed find
  view-flush k =
      view-parts (flushed s) k
      ∙ rw (flush-newest, flush-reads 0, flush-reads 1, flush-reads 2, find-append k s.memory (newest s (level s 0)))
      (or_else-assoc (find k s.memory) (find k (newest s (level s 0))) _)
      ∙ sym (view-parts s k)
