-- A merge keeps a store sound: new tables lie in the old one's span and hold no links, and a frozen place stays exactly while another link names it.
use Prim.Native.Nat.{ℕ, zero, suc, ◌≤◌}
use mathlib.Core.Path.{◌≡◌, refl, sym, ◌∙◌, ap, ap₂}
use mathlib.Core.List.{List, [], ◌∷◌, ◌++◌, map, append_assoc, Memᴰ}
use mathlib.Core.Bool.{true, false}
use native.Mathlib.Omega.{arith}
use borrow.Author.Tests.{eqb-true, eqb-false, eq-eqb}
use lib.Dec.{eqb}
use lib.ListN.{length, set, length-set}
use Rattle.table.specs.Entry.{Entry}
use Rattle.ldc.specs.Lists.{any, how_many, flat}
use Rattle.ldc.specs.Store.{Link, Store, card, links, is_free, is_live, is_frozen, bytes_at, table, level, span_start, span_end}
use Rattle.ldc.specs.Rules.{Hung, times_listed, link_good, hung_on, all_apart, named, spans_rise}
use Rattle.ldc.specs.Place.{places_taken, written_all, free_places}
use Rattle.ldc.specs.Tidy.{merged_entries, merged_tables}
use Rattle.ldc.specs.Steps.{replaced, do_merge}
use Rattle.ldc.proofs.Steps.Apart.{apart-without}
use Rattle.ldc.proofs.Basics.Cases.{cases, clash}
use Rattle.ldc.proofs.Stores.CardFacts.{live-not-free, frozen-not-free, free-not-live, no-links}
use Rattle.ldc.proofs.Basics.Counts.{one, total-set, how_many-flat, how_many-append, member-counted, member-any}
use Rattle.ldc.proofs.Entries.Cut.{SpansTo, spans-join, pieces-spans, flat-cut}
use Rattle.ldc.proofs.Stores.Facts.{rule_a-of, threshold-sound, listed-total, listed-live, listed-once, listed-part, level-spans, link-frozen}
use Rattle.ldc.proofs.Stores.Frame.{hung_in, hung_in-same, spans_rise-same, span_start-same, span_end-same, slice-same}
use Rattle.ldc.proofs.Steps.LinkShape.{one-small}
use Rattle.ldc.proofs.Steps.MergeShape.{merged-keys, merged-pieces, tables, linked, p-live, p-occupied, filled-wrote, merge-links, merge-gone, merge-was, merge-occupied, merge-frozen, merge-live, merge-bytes, merge-kept, merge-levels, merge-from, merge-other, merge-size, merge-placed, merge-marks, merge-threshold, merge-memory, merge-cursor, merge-new}
use Rattle.ldc.proofs.Stores.Naming.{named-intro, named-elim, agree}
use Rattle.ldc.proofs.Basics.Replaced.{Split, split, replaced-counted}
use Rattle.ldc.proofs.Stores.Sound.{Sound, TablePlace}
use Rattle.ldc.proofs.Stores.Spans.{spans-rise}
use Rattle.ldc.proofs.Stores.TableLaws.{table_bytes-place}
use Rattle.ldc.proofs.Stores.Written.{Wrote, wrote-occupied, wrote-stored, taken-or-kept, map-member}
use Rattle.ldc.specs.Facts.{Spans}

-- Of three levels one loses some links.
apart-three : (n : ℕ) → 1 ≤ n → n ≤ 3 → (h h' : ℕ → List Hung) (xs ys zs : List Hung)
    → ((i : ℕ) → (i ≡ n → ⊥) → h' i ≡ h i) → h n ≡ xs ++ (ys ++ zs) → h' n ≡ xs ++ zs
    → all_apart (h 1 ++ (h 2 ++ h 3)) ≡ true → all_apart (h' 1 ++ (h' 2 ++ h' 3)) ≡ true
apart-three zero l u h h' xs ys zs o a b d = absurd (omega arith)
apart-three (suc zero) l u h h' xs ys zs o a b d =
    rw (b, o 2 (λ e. omega arith), o 3 (λ e. omega arith), append_assoc xs zs (h 2 ++ h 3))
    (apart-without xs ys (zs ++ (h 2 ++ h 3)) (simp (append_assoc) at (rw a at d)))
apart-three (suc (suc zero)) l u h h' xs ys zs o a b d =
    let d' : all_apart (h 1 ++ ((xs ++ (ys ++ zs)) ++ h 3)) ≡ true = rw a at d in
    let e : all_apart ((h 1 ++ xs) ++ (ys ++ (zs ++ h 3))) ≡ true = simp append_assoc (simp append_assoc at d') in
    rw (o 1 (λ x. omega arith), b, o 3 (λ x. omega arith)) (simp append_assoc (simp append_assoc at (apart-without (h 1 ++ xs) ys (zs ++ h 3) e)))
apart-three (suc (suc (suc zero))) l u h h' xs ys zs o a b d =
    let d' : all_apart (h 1 ++ (h 2 ++ (xs ++ (ys ++ zs)))) ≡ true = rw a at d in
    let e : all_apart ((h 1 ++ (h 2 ++ xs)) ++ (ys ++ zs)) ≡ true = simp append_assoc d' in
    rw (o 1 (λ x. omega arith), o 2 (λ x. omega arith), b) (simp append_assoc at (apart-without (h 1 ++ (h 2 ++ xs)) ys zs e))
apart-three (suc (suc (suc (suc n)))) l u h h' xs ys zs o a b d = absurd (omega arith)

-- Spans with one table replaced by others within its span.
spans-same : (s s' : Store) (low : ℕ) (ps : List ℕ) → Spans s low ps → ((q : ℕ) → Memᴰ q ps → (links s' q ≡ links s q) × (bytes_at s' q ≡ bytes_at s q)) → Spans s' low ps
spans-same s s' low [] h k = tt
spans-same s s' low (p ∷ ps) h k =
    let c = k p (mathlib.Core.List.Memᴰ.head refl) in
    rw (span_start-same s s' p c.0 c.1, span_end-same s s' p c.0 c.1) (h.0, h.1, spans-same s s' (suc (span_end s p)) ps h.2 (λ q m. k q (mathlib.Core.List.Memᴰ.tail m)))

spans_to-lower : (s : Store) (low low' high : ℕ) (ps : List ℕ) → low' ≤ low → SpansTo s low high ps → SpansTo s low' high ps
spans_to-lower s low low' high [] l h = omega arith
spans_to-lower s low low' high (p ∷ ps) l h = (omega (arith, h.0), h.1, h.2)

spans-replaced : (s s' : Store) (low : ℕ) (xs : List ℕ) (p : ℕ) (qs ys : List ℕ) → Spans s low (xs ++ (p ∷ ys))
    → ((q : ℕ) → Memᴰ q xs → (links s' q ≡ links s q) × (bytes_at s' q ≡ bytes_at s q))
    → ((q : ℕ) → Memᴰ q ys → (links s' q ≡ links s q) × (bytes_at s' q ≡ bytes_at s q))
    → SpansTo s' (span_start s p) (suc (span_end s p)) qs → Spans s' low (xs ++ (qs ++ ys))
spans-replaced s s' low [] p qs ys h a b t =
    spans-join s' low (suc (span_end s p)) qs ys (spans_to-lower s' (span_start s p) low (suc (span_end s p)) qs h.0 t) (spans-same s s' (suc (span_end s p)) ys h.2 b)
spans-replaced s s' low (x ∷ xs) p qs ys h a b t =
    let c = a x (mathlib.Core.List.Memᴰ.head refl) in
    rw (span_start-same s s' x c.0 c.1, span_end-same s s' x c.0 c.1)
    (h.0, h.1, spans-replaced s s' (suc (span_end s x)) xs p qs ys h.2 (λ q m. a q (mathlib.Core.List.Memᴰ.tail m)) b t)

module _ (s : Store) (S : Sound s) (n p : ℕ) (lowest : 1 ≤ n) (highest : n ≤ 3) (m : Memᴰ p (level s n)) (enough : length (merged_tables s n p) ≤ free_places s) where
  abbrev pub after : Store
  after = do_merge n p s

  abbrev pub ts : List (List Entry)
  ts = merged_tables s n p

  abbrev pub qs : List ℕ
  qs = places_taken ts s

  w : Wrote s (written_all ts s) qs ts
  w = filled-wrote s S n p m enough

  pub r : Split p (level s n)
  r = split p (level s n) m

  -- ---- B, C

  merge-listed : (q : ℕ) → times_listed after q ≡ one (is_live (card after q))
  unfolding times_listed level
  merge-listed q =
      let a = total-set (how_many (eqb q)) s.levels n (replaced p qs (level s n)) [] (omega (arith, S.four)) in
      let c = replaced-counted q p qs (level s n) m in
      let t = listed-total s S q in
      let k = w.counted q in
      let f = ap (λ (ls : List (List ℕ)). how_many (eqb q) (flat ls)) (merge-levels s S n p m enough)
      ∙ how_many-flat (eqb q) (set s.levels n (replaced p qs (level s n))) in
      let v = merge-live s S n p m enough q in
      f ∙ cases (eqb q p)
      (λ e. let qp : q ≡ p = eqb-true q p e in
      let l : one (is_live (card s q)) ≡ 1 = rw (qp, p-live s S n p m enough) in
      let v' : is_live (card after q) ≡ false = rw e at v in
      let z : one (is_live (card after q)) ≡ 0 = ap one v' in
      let x : how_many (eqb q) qs ≡ 0 = rw qp (wrote-occupied s (written_all ts s) qs ts w p (p-occupied s S n p m enough)) in
      let o : how_many (eqb q) (p ∷ []) ≡ 1 = rw e in omega arith)
      (λ e. let v' : is_live (card after q) ≡ is_live (card (written_all ts s) q) = rw e at v in
      let z : one (is_live (card after q)) ≡ one (is_live (card (written_all ts s) q)) = ap one v' in
      let o : how_many (eqb q) (p ∷ []) ≡ 0 = rw e in omega arith)

  merge-tables : (q : ℕ) → is_free (card after q) ≡ false → TablePlace (bytes_at after q)
  merge-tables q h =
      let o = merge-occupied s S n p m enough q h in
      taken-or-kept s (written_all ts s) qs ts w q
      (λ t. let d = wrote-stored s (written_all ts s) qs ts w q t in
      let pc = merged-pieces s S p (p-occupied s S n p m enough) n d.0 d.1.0 in
      rw (merge-bytes s S n p m enough q, d.1.1) (table_bytes-place d.0 pc.valid pc.some))
      (λ k. let c = w.kept q k in
      rw (merge-bytes s S n p m enough q, c.1) (S.tables q (ap is_free (sym c.0) ∙ ap is_free (sym o.1) ∙ h)))

  -- ---- E

  other_place : (i q : ℕ) → (i ≡ n → ⊥) → Memᴰ q (level s i) → q ≡ p → ⊥
  other_place i q d h e = listed-once s S i n q d h (rw e m)

  pub other-links : (i q : ℕ) → (i ≡ n → ⊥) → Memᴰ q (level s i) → links after q ≡ links s q
  other-links i q d h = merge-links s S n p m enough q (other_place i q d h)

  pub level-other : (i : ℕ) → (i ≡ n → ⊥) → level after i ≡ level s i
  level-other i d = merge-other s S n p m enough i d

  pub level-from : level after n ≡ r.front ++ (qs ++ r.back)
  level-from = merge-from s S n p m enough (omega (arith, S.four)) ∙ r.other qs

  merge-bare : (q : ℕ) → Memᴰ q (level after 0) → links after q ≡ []
  merge-bare q h =
      let d : 0 ≡ n → ⊥ = λ e. omega arith in
      let h' : Memᴰ q (level s 0) = rw (level-other 0 d) at h in
      other-links 0 q d h' ∙ S.bare q h'

  merge-few : (q : ℕ) → length (links after q) ≤ after.threshold
  merge-few q =
      cases (eqb q p)
      (λ e. let z : links after q ≡ [] = rw (eqb-true q p e) (merge-gone s S n p m enough) in rw z (omega arith))
      (λ e. let z : links after q ≡ links s q = merge-links s S n p m enough q (eqb-false q p e) in
      omega (arith, ap (λ (ls : List Link). length ls) z, S.few q, merge-threshold s S n p m enough))

  -- a place that a link names stays as it was
  still-frozen : (f : ℕ) → is_frozen (card s f) ≡ true → named after f ≡ true → is_frozen (card after f) ≡ is_frozen (card s f)
  still-frozen f z h =
      merge-frozen s S n p m enough f
      ∙ cases (any (eqb f) (linked s S n p m enough)) (λ e. rw (e, h) (sym z)) (λ e. rw e)

  merge-hung : (q : ℕ) (l : Link) → Memᴰ l (links after q) → link_good after l ≡ true
  unfolding link_good
  merge-hung q l h =
      let b = merge-was s S n p m enough q l h in
      let z = link-frozen s S q l b.1 in
      rw (
        still-frozen l.place z (named-intro after l.place q l h refl),
        slice-same s after l (merge-kept s S n p m enough l.place (frozen-not-free (card s l.place) z)),
      )
      (S.hung q l b.1)

  merge-naming : (q : ℕ) → is_frozen (card after q) ≡ named after q
  merge-naming q =
      merge-frozen s S n p m enough q
      ∙ cases (any (eqb q) (linked s S n p m enough))
      (λ e. rw e)
      (λ e. rw e (S.naming q
      ∙ agree (named s q) (named after q)
      (λ h. let x = named-elim s q h in
      cases (eqb x.0 p)
      (λ t. let on : Memᴰ x.1.0 (links s p) = rw (eqb-true x.0 p t) at x.1.1.0 in
      let z : Memᴰ q (linked s S n p m enough) =
      mathlib.Core.List.Memᴰ.cast (sym x.1.1.1) (map-member (λ (l : Link). l.place) x.1.0 (links s p) on) in
      clash (member-any q (linked s S n p m enough) z) e)
      (λ t. named-intro after q x.0 x.1.0 (rw (merge-links s S n p m enough x.0 (eqb-false x.0 p t)) x.1.1.0) x.1.1.1))
      (λ h. let x = named-elim after q h in
      named-intro s q x.0 x.1.0 (merge-was s S n p m enough x.0 x.1.0 x.1.1.0).1 x.1.1.1)))

  -- ---- the tables before and behind the old one, and the new ones

  p-once : (how_many (eqb p) r.front ≡ 0) × (how_many (eqb p) r.back ≡ 0)
  p-once =
      let c = listed-part s S n p in
      let o = one-small (is_live (card s p)) in
      let a = how_many-append (eqb p) r.front (p ∷ r.back) in
      let b : how_many (eqb p) (p ∷ r.back) ≡ suc (how_many (eqb p) r.back) = rw (eq-eqb p p refl) in
      let d : how_many (eqb p) (level s n) ≡ how_many (eqb p) (r.front ++ (p ∷ r.back)) = ap (how_many (eqb p)) r.whole in
      (omega arith, omega arith)

  absent : (q : ℕ) (xs : List ℕ) → how_many (eqb p) xs ≡ 0 → Memᴰ q xs → q ≡ p → ⊥
  absent q xs z h e = let k = member-counted p xs (mathlib.Core.List.Memᴰ.cast (sym e) h) in omega arith

  pub front-on : (q : ℕ) → Memᴰ q r.front → Memᴰ q (level s n)
  front-on q h = rw r.whole (mathlib.Core.List.Memᴰ.append_left (p ∷ r.back) h)

  pub back_on : (q : ℕ) → Memᴰ q r.back → Memᴰ q (level s n)
  back_on q h = rw r.whole (mathlib.Core.List.Memᴰ.append_right r.front (mathlib.Core.List.Memᴰ.tail h))

  pub occupied : (i q : ℕ) → Memᴰ q (level s i) → is_free (card s q) ≡ false
  occupied i q h = live-not-free (card s q) (listed-live s S i q h)

  pub front_same : (q : ℕ) → Memᴰ q r.front → (links after q ≡ links s q) × (bytes_at after q ≡ bytes_at s q)
  front_same q h = (merge-links s S n p m enough q (absent q r.front p-once.0 h), merge-kept s S n p m enough q (occupied n q (front-on q h)))

  pub back-same : (q : ℕ) → Memᴰ q r.back → (links after q ≡ links s q) × (bytes_at after q ≡ bytes_at s q)
  back-same q h = (merge-links s S n p m enough q (absent q r.back p-once.1 h), merge-kept s S n p m enough q (occupied n q (back_on q h)))

  pub new-links : (q : ℕ) → Memᴰ q qs → links after q ≡ []
  unfolding links
  new-links q h =
      let f = (w.new q (member-counted q qs h)).0 in
      let d : q ≡ p → ⊥ = λ e. clash (rw e at f) (p-occupied s S n p m enough) in
      merge-links s S n p m enough q d ∙ no-links (card s q) (free-not-live (card s q) f)

  -- ---- links that name one place share no key

  hung_in-append : (t : Store) (i : ℕ) (xs ys : List ℕ) → hung_in t i (xs ++ ys) ≡ hung_in t i xs ++ hung_in t i ys
  hung_in-append t i [] ys = refl
  hung_in-append t i (x ∷ xs) ys =
      ap (λ (hs : List Hung). map (λ l. record { on = i; link = l }) (links t x) ++ hs) (hung_in-append t i xs ys)
      ∙ sym (append_assoc (map (λ l. record { on = i; link = l }) (links t x)) (hung_in t i xs) (hung_in t i ys))

  hung_in-none : (t : Store) (i : ℕ) (xs : List ℕ) → ((q : ℕ) → Memᴰ q xs → links t q ≡ []) → hung_in t i xs ≡ []
  hung_in-none t i [] h = refl
  hung_in-none t i (x ∷ xs) h = rw (h x (mathlib.Core.List.Memᴰ.head refl)) (hung_in-none t i xs (λ q k. h q (mathlib.Core.List.Memᴰ.tail k)))

  hung-from : hung_on after n ≡ hung_in s n r.front ++ hung_in s n r.back
  unfolding hung_on
  hung-from =
      ap (hung_in after n) level-from
      ∙ hung_in-append after n r.front (qs ++ r.back)
      ∙ ap₂ (λ (xs ys : List Hung). xs ++ ys)
      (hung_in-same s after n r.front (λ q h. (front_same q h).0))
      (hung_in-append after n qs r.back
      ∙ ap₂ (λ (xs ys : List Hung). xs ++ ys) (hung_in-none after n qs new-links) (hung_in-same s after n r.back (λ q h. (back-same q h).0)))

  hung-was : hung_on s n ≡ hung_in s n r.front ++ (hung_in s n (p ∷ []) ++ hung_in s n r.back)
  unfolding hung_on
  hung-was =
      ap (hung_in s n) r.whole
      ∙ hung_in-append s n r.front (p ∷ r.back)
      ∙ ap (λ (hs : List Hung). hung_in s n r.front ++ hs) (hung_in-append s n (p ∷ []) r.back)

  hung-other : (i : ℕ) → (i ≡ n → ⊥) → hung_on after i ≡ hung_on s i
  unfolding hung_on
  hung-other i d = ap (hung_in after i) (level-other i d) ∙ hung_in-same s after i (level s i) (λ q h. other-links i q d h)

  merge-disjoint : all_apart (hung_on after 1 ++ (hung_on after 2 ++ hung_on after 3)) ≡ true
  merge-disjoint =
      apart-three n lowest highest (hung_on s) (hung_on after) (hung_in s n r.front) (hung_in s n (p ∷ [])) (hung_in s n r.back)
      hung-other hung-was hung-from S.disjoint

  -- ---- G

  new-spans : SpansTo after (span_start s p) (suc (span_end s p)) qs
  unfolding merged_tables
  new-spans =
      pieces-spans after (span_start s p) (suc (span_end s p)) qs
      (λ q h. (
        new-links q h,
        (merged-pieces s S p (p-occupied s S n p m enough) n (table after q) (rw (merge-new s S n p m enough) at (map-member (table after) q qs h))).some,
      ))
      (rw (merge-new s S n p m enough, flat-cut (merged_entries s n p)) (merged-keys s S p (p-occupied s S n p m enough) n))

  merge-rising : (i : ℕ) → spans_rise after (level after (suc i)) ≡ true
  merge-rising i =
      cases (eqb (suc i) n)
      (λ e. let sn : suc i ≡ n = eqb-true (suc i) n e in
      let sp : Spans s 0 (r.front ++ (p ∷ r.back)) = rw r.whole at (rw sn at (level-spans s S i)) in
      rw (sn, level-from) (spans-rise after 0 (r.front ++ (qs ++ r.back))
      (spans-replaced s after 0 r.front p qs r.back sp front_same back-same new-spans)))
      (λ e. let d : suc i ≡ n → ⊥ = eqb-false (suc i) n e in
      rw (level-other (suc i) d)
      (spans_rise-same s after (level s (suc i)) (λ q h. (other-links (suc i) q d h, merge-kept s S n p m enough q (occupied (suc i) q h))) ∙ S.rising i))

  pub sound-merge : Sound (do_merge n p s)
  sound-merge = record {
    fewest = rw (merge-size s S n p m enough) S.fewest;
    most = rw (merge-size s S n p m enough) S.most;
    placed = merge-placed s S n p m enough;
    four = ap length (merge-levels s S n p m enough) ∙ length-set s.levels n (replaced p qs (level s n)) ∙ S.four;
    two = ap length (merge-marks s S n p m enough) ∙ S.two;
    rule_a-kept = rule_a-of after (rw (merge-threshold s S n p m enough) (threshold-sound s S.rule_a-kept)) (merge-cursor s S n p m enough);
    listed = merge-listed;
    tables = merge-tables;
    memory = rw (merge-memory s S n p m enough) S.memory;
    bare = merge-bare;
    few = merge-few;
    hung = merge-hung;
    disjoint = merge-disjoint;
    naming = merge-naming;
    rising = merge-rising;
  }
