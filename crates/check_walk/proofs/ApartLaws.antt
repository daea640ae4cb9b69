-- Links that are apart, level by level: within a table and between tables; and that between tables they are where the spans rise.
use Prim.Native.Nat.{ℕ, zero, suc, ◌+◌, ◌-◌, ◌≤◌, ◌<◌}
use mathlib.Core.Path.{◌≡◌, refl, sym, ◌∙◌}
use mathlib.Core.Bool.{Bool, true, false, not, ◌&&◌, or-true}
use mathlib.Core.List.{List, [], ◌∷◌, ◌++◌, Memᴰ}
use native.Mathlib.Omega.{arith}
use native.Mathlib.Numerals.{add-one}
use borrow.Author.Tests.{ltb-true, lt-ltb}
use lib.Dec.{ltb, eqb}
use lib.ListN.{length, drop, take, length-drop}
use lib.Seq.{take_all}
use Rattle.table.specs.Limits.{table_head}
use Rattle.table.specs.Entry.{length_at, key_at}
use Rattle.table.specs.Table.{count_of, entries, entries_at, entries_good, is_table, place_of}
use Rattle.table.specs.Search.{least_key, greatest_key}
use Rattle.table.proofs.Tests.{and_parts}
use Rattle.table.proofs.Position.{good-entry, table-good}
use Rattle.table.proofs.Found.{entry_at-key}
use Rattle.ldc.specs.Lists.{all}
use Rattle.ldc.specs.Store.{Link, links, table, least_end, greatest_end, span_start, span_end}
use Rattle.ldc.specs.Rules.{spans_rise}
use Rattle.ldc.proofs.Basics.ListLaws.{all_of}
use Rattle.ldc.proofs.Stores.Spans.{least_end-own, greatest_end-own, least_end-link, greatest_end-link}
use Rattle.book.specs.Rows.{links_on, tabled, Sized, shown_by}
use Rattle.ldc.specs.Layout.{items_in}
use Rattle.check_walk.specs.Links.{pairs, apart_in, cross_apart, links_over, unmarked, levels_apart, links_marked}
use Rattle.check_walk.specs.Spans.{rises_from}
use Rattle.check_walk.proofs.ShownLaws.{links-shown, table-shown}
use Rattle.check_walk.proofs.LinkLaws.{all_append}
use Rattle.check_walk.proofs.SpanLaws.{rise-from}
use Rattle.check_walk.specs.Lists.{names_places}

-- ---- a part of the items

pub rest-items : (items : List ℕ) (i : ℕ) → take (length items - i) (drop i items) ≡ drop i items
rest-items items i = take_all (length items - i) (drop i items) (rw length-drop (omega arith))

pub below_rest : (P : ℕ) (items : List ℕ) (i : ℕ) → names_places P items ≡ true → names_places P (drop i items) ≡ true
unfolding names_places
below_rest P items zero h = h
below_rest P [] (suc i) h = refl
below_rest P (x ∷ items) (suc i) h = below_rest P items i (and_parts (ltb x P) (all (λ y. ltb y P) items) h).1

-- ---- within a table and between tables

-- Two tests that say the same.
pub same_test : (a b : Bool) → (a ≡ true → b ≡ true) → (b ≡ true → a ≡ true) → a ≡ b
same_test true b f g = sym (f refl)
same_test false true f g = g refl
same_test false false f g = refl

module _ {A : Type 0} (test : A → A → Bool) where
  pub pairs-append : (xs ys : List A) → pairs test (xs ++ ys) ≡ (pairs test xs && (all (λ x. all (test x) ys) xs && pairs test ys))
  pairs-append [] ys = refl
  pairs-append (x ∷ xs) ys =
      rw (all_append (test x) xs ys, pairs-append xs ys)
      (shuffle (all (test x) xs) (all (test x) ys) (pairs test xs) (all (λ y. all (test y) ys) xs) (pairs test ys))
    where
      shuffle : (a b c d e : Bool) → ((a && b) && (c && (d && e))) ≡ ((a && c) && ((b && d) && e))
      shuffle true true true d e = refl
      shuffle true true false d e = refl
      shuffle true false true d e = refl
      shuffle true false false d e = refl
      shuffle false b c d e = refl

-- A test of two parts.
pub all_split : {A : Type 0} (f g h : A → Bool) (xs : List A) → ((x : A) → f x ≡ (g x && h x)) → all f xs ≡ (all g xs && all h xs)
all_split f g h [] e = refl
all_split f g h (x ∷ xs) e = rw (e x, all_split f g h xs e) (regroup (g x) (h x) (all g xs) (all h xs))
  where
    regroup : (a b c d : Bool) → ((a && b) && (c && d)) ≡ ((a && c) && (b && d))
    regroup true true c d = refl
    regroup true false true d = refl
    regroup true false false d = refl
    regroup false b c d = refl

-- All links of one list against those of some tables, table after table.
cross-over : (ls : List Link) (cards : List (List ℕ)) (items : List ℕ)
    → all (λ l. all (apart_in l) (links_over cards items)) ls ≡ all (λ q. cross_apart ls (links_on cards q)) items
unfolding links_over cross_apart
cross-over ls cards [] = all_of (λ l. true) ls (λ l m. refl)
cross-over ls cards (q ∷ items) =
    all_split (λ l. all (apart_in l) (links_on cards q ++ links_over cards items)) (λ l. all (apart_in l) (links_on cards q))
    (λ l. all (apart_in l) (links_over cards items)) ls
    (λ l. all_append (apart_in l) (links_on cards q) (links_over cards items))
    ∙ rw (cross-over ls cards items)

over-shuffle : (a b c d : Bool) → (a && (c && (b && d))) ≡ ((a && b) && (c && d))
over-shuffle true true true d = refl
over-shuffle true true false d = refl
over-shuffle true false true d = refl
over-shuffle true false false d = refl
over-shuffle false b c d = refl

pub level-parts : (cards : List (List ℕ)) (items : List ℕ)
    → pairs apart_in (links_over cards items)
    ≡ (all (λ p. pairs apart_in (links_on cards p)) items && pairs (λ p q. cross_apart (links_on cards p) (links_on cards q)) items)
unfolding links_over
level-parts cards [] = refl
level-parts cards (p ∷ items) =
    pairs-append apart_in (links_on cards p) (links_over cards items)
    ∙ rw (cross-over (links_on cards p) cards items, level-parts cards items)
    (over-shuffle (pairs apart_in (links_on cards p)) (all (λ q. pairs apart_in (links_on cards q)) items)
    (all (λ q. cross_apart (links_on cards p) (links_on cards q)) items) (pairs (λ x y. cross_apart (links_on cards x) (links_on cards y)) items))

-- ---- where the spans rise

greatest-above : (n : ℕ) (s : List ℕ) (at least end : ℕ) → entries_good (suc n) s at least end ≡ true → least ≤ greatest_key (entries_at (suc n) s at)
unfolding entries_at greatest_key
greatest-above zero s at least end g = rw (entry_at-key s at) (good-entry zero s at least end g).rises
greatest-above (suc n) s at least end g =
    let e = good-entry (suc n) s at least end g in
    omega (arith, e.rises, greatest-above n s (at + length_at s at) (suc (key_at s at)) end e.rest)

keys-order : (n : ℕ) (s : List ℕ) (at least end : ℕ) → entries_good (suc n) s at least end ≡ true
    → least_key (entries_at (suc n) s at) ≤ greatest_key (entries_at (suc n) s at)
unfolding entries_at least_key greatest_key
keys-order zero s at least end g = omega arith
keys-order (suc n) s at least end g =
    let e = good-entry (suc n) s at least end g in
    rw (entry_at-key s at) (omega (arith, greatest-above n s (at + length_at s at) (suc (key_at s at)) end e.rest))

table-order : (s : List ℕ) → is_table s ≡ true → least_key (entries s) ≤ greatest_key (entries s)
unfolding entries
table-order s t = go (count_of s) refl
  where
    go : (n : ℕ) → count_of s ≡ n → least_key (entries_at (count_of s) s table_head) ≤ greatest_key (entries_at (count_of s) s table_head)
    go zero e = absurd (omega (arith, (table-good s t).enough))
    go (suc n) e = let g = (table-good s t).good in rw e (keys-order n s table_head 0 (length_at s 0) (rw e at g))

module _ (area : List ℕ) (cards : List (List ℕ)) (z : Sized area cards) where
  span-order : (p : ℕ) → p < length cards → is_table (place_of area p) ≡ true → span_start (shown_by area cards) p ≤ span_end (shown_by area cards) p
  unfolding span_start span_end
  span-order p h t =
      let s = shown_by area cards in
      rw (table-shown area cards z p h)
      (omega (
        arith,
        least_end-own (least_key (entries (place_of area p))) (links s p),
        greatest_end-own (greatest_key (entries (place_of area p))) (links s p),
        table-order (place_of area p) t,
      ))

  -- Links of a table whose span ends below the start of another's are apart from the other's.
  cross-apart : (p q : ℕ) → span_end (shown_by area cards) p < span_start (shown_by area cards) q
      → cross_apart (links_on cards p) (links_on cards q) ≡ true
  unfolding span_start span_end cross_apart apart_in
  cross-apart p q h =
      let s = shown_by area cards in
      all_of (λ l. all (apart_in l) (links_on cards q)) (links_on cards p)
      (λ l m. all_of (apart_in l) (links_on cards q)
      (λ k n. let end : l.high ≤ greatest_end (greatest_key (table s p)) (links s p) =
      greatest_end-link (greatest_key (table s p)) (links s p) l (rw (links-shown area cards p) m) in
      let start : least_end (least_key (table s q)) (links s q) ≤ k.low =
      least_end-link (least_key (table s q)) (links s q) k (rw (links-shown area cards q) n) in
      let low : ltb l.high k.low ≡ true = lt-ltb l.high k.low (omega arith) in
      rw low (or-true (not (eqb l.place k.place)))))

  rises-above : (end : ℕ) (items : List ℕ) → names_places (length cards) items ≡ true → tabled area items ≡ true
      → rises_from (shown_by area cards) end items ≡ true
      → (q : ℕ) → Memᴰ q items → end < span_start (shown_by area cards) q
  unfolding names_places tabled
  rises-above end [] b t r q x4 = elim x4 [ ]
  rises-above end (p ∷ items) b t r q (Memᴰ.head e) =
      rw e (ltb-true _ _ (and_parts (ltb end (span_start (shown_by area cards) p)) _ r).0)
  rises-above end (p ∷ items) b t r q (Memᴰ.tail m) =
      let b' = and_parts (ltb p (length cards)) _ b in
      let t' = and_parts (is_table (place_of area p)) _ t in
      let r' = and_parts (ltb end (span_start (shown_by area cards) p)) _ r in
      let o = span-order p (ltb-true _ _ b'.0) t'.0 in
      let above = rises-above (span_end (shown_by area cards) p) items b'.1 t'.1 r'.1 q m in
      omega (arith, ltb-true end (span_start (shown_by area cards) p) r'.0)

  rises-apart : (items : List ℕ) → names_places (length cards) items ≡ true → tabled area items ≡ true → spans_rise (shown_by area cards) items ≡ true
      → pairs (λ p q. cross_apart (links_on cards p) (links_on cards q)) items ≡ true
  unfolding names_places tabled
  rises-apart [] b t r = refl
  rises-apart (p ∷ []) b t r = refl
  rises-apart (p ∷ x ∷ items) b t r =
      let b' = and_parts (ltb p (length cards)) _ b in
      let t' = and_parts (is_table (place_of area p)) _ t in
      let r' : rises_from (shown_by area cards) (span_end (shown_by area cards) p) (x ∷ items) ≡ true =
      sym (rise-from (shown_by area cards) p (x ∷ items)) ∙ r in
      rw (all_of (λ q. cross_apart (links_on cards p) (links_on cards q)) (x ∷ items)
      (λ q m. cross-apart p q (rises-above (span_end (shown_by area cards) p) (x ∷ items) b'.1 t'.1 r' q m)))
      (rises-apart (x ∷ items) b'.1 t'.1 (and_parts (ltb (span_end (shown_by area cards) p) (span_start (shown_by area cards) x)) _ r).1)

  -- So on such a level only the links of each table need comparing.
  pub level-rising : (items : List ℕ) → names_places (length cards) items ≡ true → tabled area items ≡ true
      → spans_rise (shown_by area cards) items ≡ true
      → pairs apart_in (links_over cards items) ≡ all (λ p. pairs apart_in (links_on cards p)) items
  level-rising items b t r =
      level-parts cards items ∙ rw (rises-apart items b t r) (mathlib.Core.Bool.and-true (all (λ p. pairs apart_in (links_on cards p)) items))

-- ---- levels

pub levels-apart-turn : (n i : ℕ) (cards : List (List ℕ)) (lists head marks : List ℕ) → i < n
    → levels_apart (n - i) i cards lists head marks
    ≡ (all (unmarked marks) (links_over cards (items_in (length cards) lists head i))
    && (pairs apart_in (links_over cards (items_in (length cards) lists head i))
    && levels_apart (n - (i + 1)) (i + 1) cards lists head (links_marked marks (links_over cards (items_in (length cards) lists head i)))))
unfolding levels_apart
levels-apart-turn n i cards lists head marks h =
    let e : n - i ≡ suc (n - (i + 1)) = omega arith in
    rw (e, add-one i)

pub levels-apart-end : (n i : ℕ) (cards : List (List ℕ)) (lists head marks : List ℕ) → n ≤ i → levels_apart (n - i) i cards lists head marks ≡ true
unfolding levels_apart
levels-apart-end n i cards lists head marks h = let e : n - i ≡ 0 = omega arith in rw e
