-- The tables asked about a key (document 02, note 6) give what the read order gives. A slice gives what its frozen table gives where its range
-- holds the key, and nothing elsewhere; a table gives nothing where its span does not hold it. Lists go by induction.
use Prim.Native.Nat.{ℕ, suc, ◌+◌, ◌*◌, ◌≤◌, ◌<◌}
use mathlib.Core.Path.{◌≡◌, refl, sym, ◌∙◌, ap}
use mathlib.Core.List.{List, [], ◌∷◌, ◌++◌, map, reverse, append_assoc, Memᴰ}
use mathlib.Core.Bool.{Bool, true, false, cond}
use native.Mathlib.Omega.{arith}
use borrow.Author.Tests.{leb-true, lt-leb}
use lib.Dec.{leb}
use lib.ListN.{length, length-append, length-map, length-reverse}
use Rattle.table.specs.Entry.{Entry}
use Rattle.table.specs.Search.{find}
use Rattle.ldc.specs.Lists.{keep, flat}
use Rattle.ldc.specs.Store.{Link, Store, level, links, table, slice, sources, span_start, span_end, span_holds}
use Rattle.ldc.specs.Facts.{Spans}
use Rattle.ldc.specs.Probe.{range_holds, asked_of, asked_on, asked}
use Rattle.ldc.proofs.Basics.Cases.{cases, both_right}
use Rattle.ldc.proofs.Entries.Finds.{or_else, or_else-assoc, find-append, find-within}
use Rattle.ldc.proofs.Stores.Facts.{listed-readable, level-spans}
use Rattle.ldc.proofs.Stores.Lower.{outside}
use Rattle.ldc.proofs.Stores.Order.{view, view-parts}
use Rattle.ldc.proofs.Stores.Sound.{Sound}
use Rattle.ldc.proofs.Stores.Spans.{Readable, read-outside, reads, flat_append}

-- All entries of some places' tables, one after the other.
abbrev pub tables : Store → List ℕ → List Entry
tables s ps = flat (map (table s) ps)

pub find-tables : (s : Store) (k : ℕ) (ps qs : List ℕ) → find k (tables s (ps ++ qs)) ≡ or_else (find k (tables s ps)) (find k (tables s qs))
unfolding find
find-tables s k [] qs = refl
find-tables s k (p ∷ ps) qs =
    find-append k (table s p) (tables s (ps ++ qs))
    ∙ ap (or_else (find k (table s p))) (find-tables s k ps qs)
    ∙ sym (ap (λ o. or_else o (find k (tables s qs))) (find-append k (table s p) (tables s ps)) ∙ or_else-assoc (find k (table s p)) (find k (tables s ps)) (find k (tables s qs)))

-- ---- one table

-- Of links those whose range holds the key.
pub find-ranges : (s : Store) (k : ℕ) (ls : List Link)
    → find k (tables s (map (λ l. l.place) (keep (range_holds k) ls))) ≡ find k (flat (map (slice s) ls))
unfolding find slice
find-ranges s k [] = refl
find-ranges s k (l ∷ ls) =
    sym (find-append k (slice s l) (flat (map (slice s) ls))
    ∙ ap (λ o. or_else o (find k (flat (map (slice s) ls)))) (find-within k l.low l.high (table s l.place))
    ∙ cases (range_holds k l)
    (λ q. rw q (ap (or_else (find k (table s l.place))) (sym (find-ranges s k ls)) ∙ sym (find-append k (table s l.place) (tables s (map (λ x. x.place) (keep (range_holds k) ls))))))
    (λ q. rw q (sym (find-ranges s k ls))))

pub find-asked : (s : Store) (k p : ℕ) → find k (tables s (asked_of s k p)) ≡ find k (flat (sources s p))
unfolding asked_of sources
find-asked s k p =
    find-tables s k (map (λ l. l.place) (keep (range_holds k) (reverse (links s p)))) (p ∷ [])
    ∙ ap (λ o. or_else o (find k (tables s (p ∷ [])))) (find-ranges s k (reverse (links s p)))
    ∙ sym (ap (find k) (flat_append (map (slice s) (reverse (links s p))) (table s p ∷ []))
    ∙ find-append k (flat (map (slice s) (reverse (links s p)))) (flat (table s p ∷ [])))

-- ---- a level

-- The tables asked of one whose span holds the key; of another none.
unfoldable pub asked_by : Store → (key place : ℕ) → List ℕ
asked_by s k p = cond (span_holds s p k) (asked_of s k p) []

-- One table after the other.
pub asked-cons : (s : Store) (k p : ℕ) (ps : List ℕ) → asked_on s k (p ∷ ps) ≡ asked_by s k p ++ asked_on s k ps
unfolding asked_on asked_by
asked-cons s k p ps = cases (span_holds s p k) (λ q. rw q) (λ q. rw q)

pub asked-append : (s : Store) (k : ℕ) (ps qs : List ℕ) → asked_on s k (ps ++ qs) ≡ asked_on s k ps ++ asked_on s k qs
unfolding asked_on
asked-append s k [] qs = refl
asked-append s k (p ∷ ps) qs =
    asked-cons s k p (ps ++ qs)
    ∙ ap (λ xs. asked_by s k p ++ xs) (asked-append s k ps qs)
    ∙ sym (append_assoc (asked_by s k p) (asked_on s k ps) (asked_on s k qs))
    ∙ ap (λ xs. xs ++ asked_on s k qs) (sym (asked-cons s k p ps))

find-by : (s : Store) (k p : ℕ) → Readable s p → find k (tables s (asked_by s k p)) ≡ find k (flat (sources s p))
unfolding asked_by find
find-by s k p r =
    cases (span_holds s p k)
    (λ q. rw q (find-asked s k p))
    (λ q. rw q (sym (read-outside s p r k (outside s p k q))))

pub find-asked_on : (s : Store) (k : ℕ) (ps : List ℕ) → ((q : ℕ) → Memᴰ q ps → Readable s q) → find k (tables s (asked_on s k ps)) ≡ find k (reads s ps)
unfolding find asked_on
find-asked_on s k [] r = refl
find-asked_on s k (p ∷ ps) r =
    ap (λ xs. find k (tables s xs)) (asked-cons s k p ps)
    ∙ find-tables s k (asked_by s k p) (asked_on s k ps)
    ∙ ap (λ o. or_else o (find k (tables s (asked_on s k ps)))) (find-by s k p (r p (Memᴰ.head refl)))
    ∙ ap (or_else (find k (flat (sources s p)))) (find-asked_on s k ps (λ q m. r q (Memᴰ.tail m)))
    ∙ sym (find-append k (flat (sources s p)) (reads s ps))

-- ---- the store

-- Memory and the tables asked decide.
pub view-asked : (s : Store) → Sound s → (k : ℕ) → view s k ≡ or_else (find k s.memory) (find k (tables s (asked s k)))
unfolding asked
view-asked s S k =
    let on : (n : ℕ) → find k (tables s (asked_on s k (level s n))) ≡ find k (reads s (level s n)) =
    λ n. find-asked_on s k (level s n) (listed-readable s S n) in
    let two = asked_on s k (level s 2) in
    let three = asked_on s k (level s 3) in
    view-parts s k
    ∙ ap (or_else (find k s.memory))
    (sym (find-tables s k (reverse (level s 0)) (asked_on s k (level s 1) ++ (two ++ three))
    ∙ ap (or_else (find k (tables s (reverse (level s 0)))))
    (find-tables s k (asked_on s k (level s 1)) (two ++ three)
    ∙ ap (or_else (find k (tables s (asked_on s k (level s 1))))) (find-tables s k two three)
    ∙ rw (on 1, on 2, on 3))))

-- ---- how many

length-keep : {A : Type 0} (t : A → Bool) (xs : List A) → length (keep t xs) ≤ length xs
length-keep t [] = omega arith
length-keep t (x ∷ xs) = let r = length-keep t xs in cases (t x) (λ q. rw q (omega arith)) (λ q. rw q (omega arith))

pub few-asked_of : (s : Store) (k p : ℕ) → length (asked_of s k p) ≤ length (links s p) + 1
unfolding asked_of
few-asked_of s k p =
    let ls = reverse (links s p) in
    rw (length-append, length-map)
    (omega (arith, length-keep (range_holds k) ls, length-reverse (links s p)))

-- Below the first span nothing is asked,
pub asked-below : (s : Store) (k low : ℕ) (ps : List ℕ) → Spans s low ps → k < low → asked_on s k ps ≡ []
unfolding asked_on span_holds
asked-below s k low [] h l = refl
asked-below s k low (p ∷ ps) h l =
    let no : leb (span_start s p) k ≡ false = lt-leb (span_start s p) k (omega (arith, h.0)) in
    rw no (asked-below s k (suc (span_end s p)) ps h.2 (omega (arith, h.0, h.1)))

held_below : (s : Store) (p k : ℕ) → span_holds s p k ≡ true → k < suc (span_end s p)
unfolding span_holds
held_below s p k q = omega (arith, leb-true k (span_end s p) (both_right (leb (span_start s p) k) (leb k (span_end s p)) q))

-- so at most one table of a level is considered.
pub few-asked_on : (s : Store) (k low t : ℕ) (ps : List ℕ) → Spans s low ps → ((p : ℕ) → length (links s p) ≤ t) → length (asked_on s k ps) ≤ t + 1
unfolding asked_on
few-asked_on s k low t [] h f = omega arith
few-asked_on s k low t (p ∷ ps) h f =
    cases (span_holds s p k)
    (λ q. let None-more : asked_on s k ps ≡ [] = asked-below s k (suc (span_end s p)) ps h.2 (held_below s p k q) in
    rw (q, None-more, length-append) (omega (arith, few-asked_of s k p, f p)))
    (λ q. rw q (few-asked_on s k (suc (span_end s p)) t ps h.2 f))

-- At most level 0's live tables plus 3 times (T + 1).
pub few-asked : (s : Store) → Sound s → (k : ℕ) → length (asked s k) ≤ length (level s 0) + 3 * (s.threshold + 1)
unfolding asked
few-asked s S k =
    let on : (n : ℕ) → length (asked_on s k (level s (suc n))) ≤ s.threshold + 1 =
    λ n. few-asked_on s k 0 s.threshold (level s (suc n)) (level-spans s S n) S.few in
    rw (length-append, length-append, length-append) (omega (arith, on 0, on 1, on 2, length-reverse (level s 0)))
