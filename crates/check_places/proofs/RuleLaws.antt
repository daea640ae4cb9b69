-- The rules as they are walked are the rules of the definition, for lent memory of good sizes: B and C each by itself, E, F and G where
-- B and C are kept.
use Prim.Native.Nat.{ℕ, zero, suc, ◌*◌, ◌<◌, min}
use mathlib.Core.Path.{◌≡◌, refl, sym, ◌∙◌, ap}
use mathlib.Core.Bool.{Bool, true, false, cond, ◌&&◌, ◌||◌, and-true, and-false, and_assoc, beq, false≢true}
use mathlib.Core.List.{List, [], ◌∷◌, ◌++◌, map, Memᴰ}
use mathlib.Core.Logic.{⊎_elim}
use native.Mathlib.Omega.{arith}
use borrow.Author.Tests.{ne_eqb, ltb-true, ltb-false}
use lib.Dec.{leb, ltb, eqb}
use lib.ListN.{length, get_or, drop}
use Rattle.table.specs.Limits.{place_size}
use Rattle.table.specs.Table.{is_table, all_zero, zeros, place_of}
use Rattle.table.proofs.Tests.{and_parts, cases}
use Rattle.ldc.specs.Lists.{all, how_many, flat, is_empty, all_from}
use Rattle.ldc.specs.Store.{Link, size, card, links, links_of, is_free, is_live, is_frozen, bytes_at, level}
use Rattle.ldc.specs.Rules.{threshold_good, rule_a, rule_b, rule_c, rule_e, rule_f, rule_g}
use Rattle.ldc.specs.Rules.{times_listed, link_good, hung_on, all_apart, named, spans_rise}
use Rattle.ldc.specs.Lent.{Lent, places_in, list_length, list_part, level_of, store_of}
use Rattle.ldc.specs.Lent.{sizes_good, row_good, numbers_good, summary_good, summaries_good, counts_good, unused_zero, kept_b, kept_c}
use Rattle.ldc.proofs.Basics.ListLaws.{all-at, mem-get_or}
use Rattle.ldc.proofs.Lent.Shows.{sizes}
use Rattle.ldc.proofs.Stores.SoundRules.{good-frozen}
use Rattle.ldc.specs.Layout.{card_of, link_count, items_in, length_in, level_count, threshold_in, cursor_in}
use Rattle.book.specs.Rows.{links_on, Sized, shown_by}
use Rattle.book.specs.Row.{links_in}
use Rattle.check_walk.specs.Links.{links_over, levels_apart, Walkable, links_marked}
use Rattle.check_walk.proofs.ShownLaws.{card-shown, links-shown, bytes-shown, card-beyond}
use Rattle.check_walk.proofs.ApartLaws.{all_split}
use Rattle.check_walk.specs.Lists.{names_places}
use Rattle.check_places.specs.Lists.{listed, tallied, list_good, lists_good, place_good, places_good, walk_b}
use Rattle.check_places.specs.Links.{place_tabled, walk_c, Noted, row_hangs, cards_hang, bare, walk_e, walk_f, marks_fit, mark_fits}
use Rattle.check_places.specs.Parts.{level_rises, list_rest_zero, walk_g}
use Rattle.check_places.proofs.FoundLaws.{counted-all, walkable}
use Rattle.check_places.proofs.WalkLaws.{from-split, below-same, rows_all, all_same, level-items, all_listed}
use Rattle.check_places.proofs.WalkLaws.{card-seen, links-seen, bytes-seen, good-seen, rise-seen, size-seen}
use Rattle.check_places.proofs.MarkLaws.{mark-named, hung, level_links, levels-all}

-- A capped count is right exactly if the count is.
capped : (k : ℕ) (b : Bool) → eqb (min 2 k) (cond b 1 0) ≡ eqb k (cond b 1 0)
capped zero b = refl
capped (suc zero) b = refl
capped (suc (suc k)) true =
    ne_eqb (min 2 (suc (suc k))) 1 (λ e. omega arith) ∙ sym (ne_eqb (suc (suc k)) 1 (λ e. omega arith))
capped (suc (suc k)) false =
    ne_eqb (min 2 (suc (suc k))) 0 (λ e. omega arith) ∙ sym (ne_eqb (suc (suc k)) 0 (λ e. omega arith))

level-store : (m : Lent) (n : ℕ) → n < level_count → level (store_of m) n ≡ level_of m n
unfolding level store_of
level-store m zero h = refl
level-store m (suc zero) h = refl
level-store m (suc (suc zero)) h = refl
level-store m (suc (suc (suc zero))) h = refl
level-store m (suc (suc (suc (suc n)))) h = absurd (omega arith)

map-append : {A B : Type 0} (f : A → B) (xs ys : List A) → map f (xs ++ ys) ≡ map f xs ++ map f ys
map-append f [] ys = refl
map-append f (x ∷ xs) ys = rw (map-append f xs ys)

hung-items : (m : Lent) (n : ℕ) (items : List ℕ)
    → flat (map (λ p. map (hung n) (links (store_of m) p)) items) ≡ map (hung n) (links_over m.cards items)
unfolding links_over
hung-items m n [] = refl
hung-items m n (p ∷ items) =
    rw (hung-items m n items, links-seen m p, links-shown m.area m.cards p)
    (sym (map-append (hung n) (links_on m.cards p) (links_over m.cards items)))

-- ---- a good link names a place

over-mem : (cards : List (List ℕ)) (items : List ℕ) (l : Link) → Memᴰ l (links_over cards items) → (p : ℕ) × Memᴰ l (links_on cards p)
unfolding links_over
over-mem cards [] l x = absurd (mathlib.Core.List.Memᴰ.not-nil x)
over-mem cards (p ∷ items) l x = ⊎_elim (λ a. (p, a)) (λ a. over-mem cards items l a) (mathlib.Core.List.Memᴰ.append_cases (links_on cards p) x)

good-place : (area : List ℕ) (cards : List (List ℕ)) (t : ℕ) → cards_hang area cards t ≡ true
    → (items : List ℕ) (l : Link) → Memᴰ l (links_over cards items) → l.place < length cards
unfolding cards_hang row_hangs links_on links_in
good-place area cards t h items l x =
    let o = over-mem cards items l x in
    let p : ℕ = o.0 in
    cases (ltb p (length cards))
    (λ q. let row = all-at (row_hangs area cards t) cards h (mem-get_or cards p [] (ltb-true _ _ q)) in
    let good : link_good (shown_by area cards) l ≡ true =
    all-at (link_good (shown_by area cards)) (links_in (get_or cards p [])) (and_parts (leb (link_count (get_or cards p [])) t) _ row).1 o.1 in
    let cold : is_frozen (card_of (get_or cards l.place [])) ≡ true =
    rw (card-shown area cards l.place) at (good-frozen (shown_by area cards) l good) in
    cases (ltb l.place (length cards))
    (λ r. ltb-true _ _ r)
    (λ r. let warm = card-beyond area cards l.place (ltb-false _ _ r) in absurd (false≢true (rw warm at cold))))
    (λ q. let none = card-beyond area cards p (ltb-false _ _ q) in
    let y : Memᴰ l (links_of (card_of (get_or cards p []))) = o.1 in
    absurd (mathlib.Core.List.Memᴰ.not-nil (rw none at y)))

module _ (m : Lent) (good : sizes_good m ≡ true) where
  places : places_in m.area ≡ length m.cards
  places = sym (sizes m good).cards

  pub sized : Sized m.area m.cards
  sized = record { whole = (sizes m good).area ∙ ap (λ n. n * place_size) places; most = omega (arith, (sizes m good).most, (sizes m good).cards) }

  pub long-lists : length m.lists ≡ level_count * length m.cards
  long-lists = (sizes m good).lists ∙ ap (λ n. level_count * n) places

  -- ---- A

  pub rule-A : rule_a (store_of m) ≡ (threshold_good (threshold_in m.head) && ltb (cursor_in m.head) (length m.cards))
  unfolding rule_a
  rule-A = rw (size-seen m) (unfold store_of in refl)

  -- ---- B

  lengths : Bool
  lengths = all_from level_count 0 (λ n. leb (length_in m.head n) (length m.cards))

  lists-parts : lists_good (length m.cards) m.lists m.head
      ≡ (lengths && all (λ i. ltb i (length m.cards)) (listed level_count 0 (length m.cards) m.lists m.head))
  unfolding lists_good list_good names_places lengths
  lists-parts =
      from-split (list_good (length m.cards) m.lists m.head) (λ n. leb (length_in m.head n) (length m.cards))
      (λ n. all (λ i. ltb i (length m.cards)) (items_in (length m.cards) m.lists m.head n)) level_count 0 (λ n. refl)
      ∙ rw (all_listed (λ i. ltb i (length m.cards)) level_count 0 (length m.cards) m.lists m.head)

  numbers-parts : numbers_good m ≡ (all row_good m.cards && lengths)
  unfolding numbers_good lengths
  numbers-parts = rw places

  -- Where all lists fit, what is listed is what the store lists.
  levels-listed : lengths ≡ true → flat (store_of m).levels ≡ listed level_count 0 (length m.cards) m.lists m.head
  unfolding store_of listed lengths
  levels-listed h =
      let fit : (n : ℕ) → n < level_count → level_of m n ≡ items_in (length m.cards) m.lists m.head n =
      λ n l. level-items m places n in
      rw (fit 0 (omega arith), fit 1 (omega arith), fit 2 (omega arith), fit 3 (omega arith))

  -- Each place by its count, and by how often it is listed.
  times : lengths ≡ true → (p : ℕ) → p < length m.cards
      → eqb (get_or (tallied (zeros (length m.cards)) (listed level_count 0 (length m.cards) m.lists m.head)) p 0)
      (cond (is_live (card_of (get_or m.cards p []))) 1 0)
      ≡ eqb (times_listed (store_of m) p) (cond (is_live (card (store_of m) p)) 1 0)
  unfolding times_listed
  times h p hp =
      rw (
        levels-listed h,
        card-seen m p,
        card-shown m.area m.cards p,
        counted-all (length m.cards) (listed level_count 0 (length m.cards) m.lists m.head) p hp,
      )
      (capped (how_many (eqb p) (listed level_count 0 (length m.cards) m.lists m.head)) (is_live (card_of (get_or m.cards p []))))

  places-parts : lengths ≡ true
      → places_good m.cards (tallied (zeros (length m.cards)) (listed level_count 0 (length m.cards) m.lists m.head))
      ≡ (all row_good m.cards && all_from (size (store_of m)) 0 (λ p. eqb (times_listed (store_of m) p) (cond (is_live (card (store_of m) p)) 1 0)))
  unfolding places_good place_good
  places-parts h =
      let counts : List ℕ = tallied (zeros (length m.cards)) (listed level_count 0 (length m.cards) m.lists m.head) in
      from-split (place_good m.cards counts) (λ p. row_good (get_or m.cards p []))
      (λ p. eqb (get_or counts p 0) (cond (is_live (card_of (get_or m.cards p []))) 1 0)) (length m.cards) 0 (λ p. refl)
      ∙ rw (
        rows_all row_good [] m.cards,
        size-seen m,
        below-same (λ p. eqb (get_or counts p 0) (cond (is_live (card_of (get_or m.cards p []))) 1 0))
            (λ p. eqb (times_listed (store_of m) p) (cond (is_live (card (store_of m) p)) 1 0)) (length m.cards) (times h),
      )

  pub rule-B : kept_b m ≡ walk_b m.cards m.lists m.head
  unfolding kept_b rule_b walk_b
  rule-B =
      cases lengths
      (λ q. rw (numbers-parts, lists-parts, q, places-parts q, levels-listed q, size-seen m)
      (swapped (all row_good m.cards) (all (λ p. ltb p (length m.cards)) (listed level_count 0 (length m.cards) m.lists m.head)) _))
      (λ q. rw (numbers-parts, lists-parts, q, and-false (all row_good m.cards)))
    where
      swapped : (a b c : Bool) → ((a && true) && (b && c)) ≡ (b && (a && c))
      swapped true b c = refl
      swapped false true c = refl
      swapped false false c = refl

  -- ---- C

  abbrev tables : ℕ → Bool
  tables p = is_free (card_of (get_or m.cards p [])) || is_table (place_of m.area p)

  abbrev bits : ℕ → Bool
  bits p = summary_good (get_or m.cards p []) (place_of m.area p)

  tables-kept : rule_c (store_of m) ≡ all_from (length m.cards) 0 tables
  unfolding rule_c
  tables-kept =
      rw (size-seen m)
      (below-same (λ p. is_free (card (store_of m) p) || is_table (bytes_at (store_of m) p)) tables (length m.cards)
      (λ p h. rw (card-seen m p, card-shown m.area m.cards p, bytes-seen m p, bytes-shown m.area m.cards sized p h)))

  bits-kept : summaries_good m ≡ all_from (length m.cards) 0 bits
  unfolding summaries_good
  bits-kept =
      below-same (λ p. summary_good (get_or m.cards p []) (bytes_at (store_of m) p)) bits (length m.cards)
      (λ p h. rw (bytes-seen m p, bytes-shown m.area m.cards sized p h))

  pub rule-C : kept_c m ≡ walk_c m.area m.cards
  unfolding kept_c walk_c place_tabled
  rule-C =
      rw (tables-kept, bits-kept)
      (sym (from-split (place_tabled m.area m.cards) tables bits (length m.cards) 0 (λ p. refl)))

  -- ---- F

  pub rule-F : rule_f (store_of m) ≡ walk_f m.cards
  unfolding rule_f walk_f marks_fit named
  rule-F =
      rw (size-seen m)
      (below-same (λ p. beq (is_frozen (card (store_of m) p)) (named (store_of m) p))
      (mark_fits m.cards (links_marked (zeros (length m.cards)) (flat (map links_in m.cards)))) (length m.cards)
      (λ p h. unfold mark_fits store_of in
      rw (card-seen m p, card-shown m.area m.cards p)
      (sym (mark-named (length m.cards) m.cards p (is_frozen (card_of (get_or m.cards p []))) h))))

  -- ---- where B and C are kept

  module _ (b : kept_b m ≡ true) (c : kept_c m ≡ true) where
    pub found : (ends : List ℕ) → Noted m.area m.cards ends → Walkable m.area m.cards m.lists m.head ends
    found ends noted = walkable m.area m.cards m.lists m.head sized (sym rule-B ∙ b) (sym rule-C ∙ c) ends noted long-lists

    pub kept-C : walk_c m.area m.cards ≡ true
    kept-C = sym rule-C ∙ c

    level-listed : (n : ℕ) → n < level_count → level (store_of m) n ≡ items_in (length m.cards) m.lists m.head n
    level-listed n h =
        level-store m n h
        ∙ level-items m places n

    -- ---- E

    hang-parts : cards_hang m.area m.cards (threshold_in m.head)
        ≡ (counts_good m && all_from (size (store_of m)) 0 (λ p. all (link_good (store_of m)) (links (store_of m) p)))
    unfolding cards_hang row_hangs counts_good links_in
    hang-parts =
        all_split (row_hangs m.area m.cards (threshold_in m.head)) (λ row. leb (link_count row) (threshold_in m.head))
        (λ row. all (link_good (shown_by m.area m.cards)) (links_in row)) m.cards (λ row. refl)
        ∙ rw (
          size-seen m,
          ← rows_all (λ row. all (link_good (shown_by m.area m.cards)) (links_in row)) [] m.cards,
          below-same (λ p. all (link_good (shown_by m.area m.cards)) (links_in (get_or m.cards p [])))
              (λ p. all (link_good (store_of m)) (links (store_of m) p)) (length m.cards)
              (λ p h. unfold links_on in
              rw (links-seen m p, links-shown m.area m.cards p)
              (all_same (link_good (shown_by m.area m.cards)) (link_good (store_of m)) (links_in (get_or m.cards p []))
              (λ l x. sym (good-seen m l)))),
        )

    bare-level : bare m.cards (items_in (length m.cards) m.lists m.head 0) ≡ all (λ p. is_empty (links (store_of m) p)) (level (store_of m) 0)
    unfolding bare
    bare-level =
        rw (level-listed 0 (omega arith))
        (all_same (λ p. is_empty (links_on m.cards p)) (λ p. is_empty (links (store_of m) p)) (items_in (length m.cards) m.lists m.head 0)
        (λ p x. rw (links-seen m p, links-shown m.area m.cards p)))

    -- The links of a level, each with the level.
    hung-level : (n : ℕ) → n < level_count → hung_on (store_of m) n ≡ map (hung n) (level_links m.cards m.lists m.head n)
    unfolding hung_on
    hung-level n h = rw (level-listed n h) (hung-items m n (items_in (length m.cards) m.lists m.head n))

    -- Where links are good, those of all levels are apart if `levels_apart` says so.
    apart-levels : cards_hang m.area m.cards (threshold_in m.head) ≡ true
        → all_apart (hung_on (store_of m) 1 ++ (hung_on (store_of m) 2 ++ hung_on (store_of m) 3))
        ≡ levels_apart 3 1 m.cards m.lists m.head (zeros (length m.cards))
    apart-levels h =
        rw (hung-level 1 (omega arith), hung-level 2 (omega arith), hung-level 3 (omega arith))
        (sym (levels-all m.cards m.lists m.head (length m.cards)
        (λ n l lo hi x. good-place m.area m.cards (threshold_in m.head) h (items_in (length m.cards) m.lists m.head n) l x)))

    pub rule-E : (counts_good m && rule_e (store_of m)) ≡ walk_e m.area m.cards m.lists m.head
    unfolding rule_e walk_e
    rule-E =
        cases (cards_hang m.area m.cards (threshold_in m.head))
        (λ q. let both = and_parts (counts_good m) _ (sym hang-parts ∙ q) in
        rw (q, both.0, both.1, bare-level, apart-levels q))
        (λ q. let none = sym hang-parts ∙ q in
        rw q (fails (counts_good m) (all (λ p. is_empty (links (store_of m) p)) (level (store_of m) 0)) _ _ none))
      where
        fails : (a b c d : Bool) → (a && c) ≡ false → (a && (b && (c && d))) ≡ false
        fails true true c d e = rw e
        fails true false c d e = refl
        fails false b c d e = refl

    -- ---- G

    rest-same : (n : ℕ) → all_zero (drop (list_length m n) (list_part m n)) ≡ list_rest_zero (length m.cards) m.lists m.head n
    unfolding list_rest_zero
    rest-same n = rw places

    rests-same : all_from level_count 0 (λ n. all_zero (drop (list_length m n) (list_part m n)))
        ≡ all_from level_count 0 (list_rest_zero (length m.cards) m.lists m.head)
    rests-same =
        below-same (λ n. all_zero (drop (list_length m n) (list_part m n))) (list_rest_zero (length m.cards) m.lists m.head) level_count
        (λ n h. rest-same n)

    rise-same : (n : ℕ) → n < level_count → spans_rise (store_of m) (level (store_of m) n) ≡ level_rises m.area m.cards m.lists m.head n
    unfolding level_rises
    rise-same n h = rw (level-listed n h) (rise-seen m (items_in (length m.cards) m.lists m.head n))

    rises-same : rule_g (store_of m) ≡ all_from 3 1 (level_rises m.area m.cards m.lists m.head)
    unfolding rule_g
    rises-same =
        rw (rise-same 1 (omega arith), rise-same 2 (omega arith), rise-same 3 (omega arith), and-true (level_rises m.area m.cards m.lists m.head 3))

    pub rule-G : (unused_zero m && rule_g (store_of m)) ≡ walk_g m.area m.cards m.lists m.head
    unfolding unused_zero walk_g
    rule-G = rw (rests-same, rises-same) (simp and_assoc)
