-- A merge changes no value that is read. The new tables together hold what was read of the old one and its slices, but for delete marks that
-- are dropped; and under the key of such a mark nothing is read of any lower-lying level, since no span there holds it.
use Prim.Native.Nat.{ℕ, zero, suc, ◌+◌, ◌-◌, ◌≤◌, ◌<◌}
use mathlib.Core.Path.{◌≡◌, refl, sym, ◌∙◌, ap, ap₂}
use mathlib.Core.List.Memᴰ
use mathlib.Core.List.{List, [], ◌∷◌, ◌++◌, map, reverse, Memᴰ}
use mathlib.Core.Bool.{Bool, true, false, not}
use mathlib.Core.Option.{Option, some, none, some-ne-none, some-injective}
use mathlib.Core.Logic.{◌⊎◌, ⊎_elim}
use native.Mathlib.Omega.{arith}
use borrow.Author.Tests.{eqb-true, not-false}
use lib.Dec.{eqb}
use lib.ListN.{length, drop}
use lib.Seq.{drop-set-lt}
use Rattle.table.specs.Entry.{Entry}
use Rattle.table.specs.Search.{find}
use Rattle.ldc.specs.Lists.{flat, is_some}
use Rattle.ldc.specs.Store.{Store, card, links, bytes_at, table, level, sources, span_start, span_end}
use Rattle.ldc.specs.Place.{places_taken, free_places}
use Rattle.ldc.specs.Read.{gather, holds_value, value_of}
use Rattle.ldc.specs.Tidy.{lower_tables, drops_mark, comes_out, merged_entries, merged_tables}
use Rattle.ldc.specs.Steps.{do_merge}
use Rattle.ldc.proofs.Basics.Cases.{cases, clash, maybe, neither_left, neither_right}
use Rattle.ldc.proofs.Stores.CardFacts.{frozen-not-free}
use Rattle.ldc.proofs.Entries.Cut.{flat-cut}
use Rattle.ldc.proofs.Stores.Facts.{listed-readable, level-spans, link-frozen}
use Rattle.ldc.proofs.Entries.Finds.{or_else, find-append, find-gather}
use Rattle.ldc.proofs.Stores.Frame.{map-cong, sources-same, reads_same, table_same}
use Rattle.ldc.proofs.Entries.Keys.{passing, find-keep, keys-gather}
use Rattle.ldc.proofs.Steps.Merge.{r, front_same, back-same, new-links, level-from, level-other, other-links, occupied}
use Rattle.ldc.proofs.Steps.MergeShape.{sources-keys, p-occupied, merge-kept, merge-levels, merge-memory, merge-new}
use Rattle.ldc.proofs.Stores.Order.{newest, view, given, beneath, bare-sources, view-one}
use Rattle.ldc.proofs.Stores.Lower.{lower-listed, dropped-below, drops_same}
use Rattle.ldc.proofs.Basics.Replaced.{member-reverse}
use Rattle.ldc.proofs.Stores.Sound.{Sound}
use Rattle.ldc.proofs.Stores.Spans.{spans-from, reads, find-reads, reads-apart}
use Rattle.ldc.specs.Facts.{Spans}

-- What is read of tables without links.
reads-bare : (s : Store) (qs : List ℕ) → ((q : ℕ) → Memᴰ q qs → links s q ≡ []) → reads s qs ≡ flat (map (table s) qs)
reads-bare s [] h = refl
reads-bare s (q ∷ qs) h =
    ap₂ (λ (xs ys : List Entry). xs ++ ys) (bare-sources s q (h q (Memᴰ.head refl))) (reads-bare s qs (λ x m. h x (Memᴰ.tail m)))

lower-given : (s : Store) (n k : ℕ) → 1 ≤ n → given s n k ≡ find k (reads s (level s n))
lower-given s zero k h = absurd (omega arith)
lower-given s (suc n) k h = refl

-- ---- a mark that is dropped

find-key : (k : ℕ) (es : List Entry) (e : Entry) → find k es ≡ some e → e.key ≡ k
unfolding find
find-key k [] e = λ h. absurd (some-ne-none e (sym h))
find-key k (x ∷ es) e =
    cases (eqb x.key k)
    (λ q. rw q (λ h. ap (λ (y : Entry). y.key) (sym (some-injective x e h)) ∙ eqb-true x.key k q))
    (λ q. rw q (find-key k es e))

-- It gives no value, and where nothing is read behind it and below, none is given without it.
marks-go : (test : Entry → Bool) (front o back below : Option Entry)
    → ((e : Entry) → o ≡ some e → test e ≡ false → (e.value ≡ none) × (back ≡ none) × (below ≡ none))
    → value_of (or_else (or_else front (or_else (passing test o) back)) below) ≡ value_of (or_else (or_else front (or_else o back)) below)
marks-go test (some f) o back below h = refl
marks-go test none none back below h = refl
marks-go test none (some e) back below h =
    cases (test e)
    (λ q. rw q)
    (λ q. let d = h e refl q in rw (q, d.1, d.2) (sym d.0))

module _ (s : Store) (S : Sound s) (n p : ℕ) (lowest : 1 ≤ n) (highest : n ≤ 3) (m : Memᴰ p (level s n)) (enough : length (merged_tables s n p) ≤ free_places s) where
  abbrev after : Store
  after = do_merge n p s

  abbrev front : List ℕ
  front = (r s S n p lowest highest m enough).front

  abbrev back : List ℕ
  back = (r s S n p lowest highest m enough).back

  -- ---- tables that are not merged

  kept-sources : (q : ℕ) → links after q ≡ links s q → bytes_at after q ≡ bytes_at s q → sources after q ≡ sources s q
  kept-sources q c b =
      sources-same s after q c b
      (λ l h. merge-kept s S n p m enough l.place (frozen-not-free (card s l.place) (link-frozen s S q l h)))

  other-given : (k i : ℕ) → (i ≡ n → ⊥) → given after i k ≡ given s i k
  other-given k zero d =
      ap (find k)
      (ap (newest after) (level-other s S n p lowest highest m enough 0 d)
      ∙ ap flat (map-cong (table after) (table s) (reverse (level s 0))
      (λ q h. table_same s after q (merge-kept s S n p m enough q (occupied s S n p lowest highest m enough 0 q (member-reverse q (level s 0) h))))))
  other-given k (suc i) d =
      ap (find k)
      (ap (reads after) (level-other s S n p lowest highest m enough (suc i) d)
      ∙ reads_same s after (level s (suc i))
      (λ q h. kept-sources q (other-links s S n p lowest highest m enough (suc i) q d h)
      (merge-kept s S n p m enough q (occupied s S n p lowest highest m enough (suc i) q h))))

  -- ---- the level of the merge

  merged-find : (k : ℕ) → find k (flat (merged_tables s n p)) ≡ passing (comes_out s n) (find k (flat (sources s p)))
  unfolding merged_tables merged_entries
  merged-find k =
      ap (find k) (flat-cut (merged_entries s n p))
      ∙ find-keep k (span_start s p) (suc (span_end s p)) (comes_out s n) (gather (sources s p))
      (keys-gather (span_start s p) (suc (span_end s p)) (sources s p) (sources-keys s S p (p-occupied s S n p m enough)))
      ∙ ap (passing (comes_out s n)) (find-gather k (sources s p))

  -- what the new tables give
  new-given : (k : ℕ) → find k (reads after (places_taken (merged_tables s n p) s)) ≡ passing (comes_out s n) (find k (flat (sources s p)))
  new-given k =
      ap (find k) (reads-bare after (places_taken (merged_tables s n p) s) (new-links s S n p lowest highest m enough) ∙ ap flat (merge-new s S n p m enough))
      ∙ merged-find k

  -- before and after, with what stands before and behind
  was-given : (k : ℕ) → find k (reads s (level s n)) ≡ or_else (find k (reads s front)) (or_else (find k (flat (sources s p))) (find k (reads s back)))
  was-given k =
      ap (λ (ps : List ℕ). find k (reads s ps)) (r s S n p lowest highest m enough).whole
      ∙ find-reads s k front (p ∷ back)
      ∙ ap (or_else (find k (reads s front))) (find-append k (flat (sources s p)) (reads s back))

  now-given : (k : ℕ) → find k (reads after (level after n))
      ≡ or_else (find k (reads s front)) (or_else (passing (comes_out s n) (find k (flat (sources s p)))) (find k (reads s back)))
  now-given k =
      ap (λ (ps : List ℕ). find k (reads after ps)) (level-from s S n p lowest highest m enough)
      ∙ find-reads after k front (places_taken (merged_tables s n p) s ++ back)
      ∙ ap₂ or_else
      (ap (find k) (reads_same s after front (λ q h. let c = front_same s S n p lowest highest m enough q h in kept-sources q c.0 c.1)))
      (find-reads after k (places_taken (merged_tables s n p) s) back
      ∙ ap₂ or_else (new-given k)
      (ap (find k) (reads_same s after back (λ q h. let c = back-same s S n p lowest highest m enough q h in kept-sources q c.0 c.1))))

  -- a key that is read of the old table is not read behind it
  apart : (k i : ℕ) → suc i ≡ n → (find k (flat (sources s p)) ≡ none) ⊎ (find k (reads s back) ≡ none)
  apart k i e =
      let whole = (r s S n p lowest highest m enough).whole in
      let sp : Spans s 0 (front ++ (p ∷ back)) = rw whole at (rw e at (level-spans s S i)) in
      reads-apart s k (span_start s p) p back
      (λ q h. listed-readable s S n q (rw whole (Memᴰ.append_right front h))) (spans-from s 0 front p back sp)

  -- ---- the levels below

  lower-same : (q : ℕ) → Memᴰ q (lower_tables s n) → (links after q ≡ links s q) × (bytes_at after q ≡ bytes_at s q)
  lower-same q h =
      let t = lower-listed s n q h in
      let i = suc n + t.0 in
      (other-links s S n p lowest highest m enough i q (λ e. omega arith) t.1, merge-kept s S n p m enough q (occupied s S n p lowest highest m enough i q t.1))

  lower-lists : lower_tables after n ≡ lower_tables s n
  unfolding lower_tables
  lower-lists =
      ap (λ (ls : List (List ℕ)). flat (drop (suc n) ls)) (merge-levels s S n p m enough)
      ∙ ap (λ (ls : List (List ℕ)). flat ls) (drop-set-lt (suc n) s.levels n _ (omega arith))

  -- A merge leaves the spans of lower-lying levels: read after it, they would drop the same marks.
  pub drops-settled : (e : Entry) → drops_mark after n e ≡ drops_mark s n e
  drops-settled = drops_same s after n lower-lists lower-same

  -- Nothing is read there under the key of a mark that is dropped. Memory table and level 0 are newer than it and are read before; a frozen
  -- place is read through links alone, each within the span of the table that it hangs on.
  nothing-on : (i : ℕ) (e : Entry) → n < i → drops_mark s n e ≡ true → given s i e.key ≡ none
  nothing-on i e l h =
      let z : suc n + (i - suc n) ≡ i = omega arith in
      lower-given s i e.key (omega arith)
      ∙ (rw z at (dropped-below s n (i - suc n) e (λ q x. listed-readable s S (suc n + (i - suc n)) q x) h))

  nothing-beneath : (i : ℕ) (e : Entry) → n ≡ i → drops_mark s n e ≡ true → beneath s i e.key ≡ none
  nothing-beneath zero e z h = refl
  nothing-beneath (suc zero) e z h = rw (nothing-on 2 e (omega arith) h) (nothing-on 3 e (omega arith) h)
  nothing-beneath (suc (suc zero)) e z h = nothing-on 3 e (omega arith) h
  nothing-beneath (suc (suc (suc i))) e z h = refl

  dropped : (k : ℕ) (e : Entry) → find k (flat (sources s p)) ≡ some e → comes_out s n e ≡ false
      → (e.value ≡ none) × (find k (reads s back) ≡ none) × (beneath s n k ≡ none)
  unfolding comes_out
  dropped k e found out =
      let bare = neither_left (holds_value e) (not (drops_mark s n e)) out in
      let drops = not-false (drops_mark s n e) (neither_right (holds_value e) (not (drops_mark s n e)) out) in
      let key : e.key ≡ k = find-key k (flat (sources s p)) e found in (
        maybe e.value (λ q. q) (λ v q. clash (ap is_some q) bare),
        ⊎_elim (λ x. absurd (some-ne-none e (sym found ∙ x))) (λ x. x) (apart k (n - 1) (omega arith)),
        rw key at (nothing-beneath n e refl drops),
      )

  pub view-merge : (k : ℕ) → value_of (view after k) ≡ value_of (view s k)
  view-merge k =
      view-one s after k n lowest highest (merge-memory s S n p m enough) (other-given k)
      (rw (lower-given after n k lowest, lower-given s n k lowest, now-given k, was-given k)
      (marks-go (comes_out s n) (find k (reads s front)) (find k (flat (sources s p))) (find k (reads s back)) (beneath s n k) (dropped k)))
