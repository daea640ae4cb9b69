-- A sound store is read back from the memory that it is written to, whose sizes and types are as they must be. Piece by piece:
-- the level lists fit because no place is listed twice, the rows because no table has more than eight links.
use Prim.Native.Nat.{ℕ, zero, suc, ◌+◌, ◌*◌, ◌%◌, ◌-◌, ◌≤◌, ◌<◌}
use mathlib.Core.Path.{◌≡◌, refl, sym, ◌∙◌, ap}
use mathlib.Core.Bool.{Bool, true, false, cond}
use mathlib.Core.List.{List, [], map, Memᴰ}
use mathlib.Core.Option.{none}
use native.Mathlib.Omega.{arith}
use borrow.Author.Tests.{eq-eqb, le-leb}
use lib.ListN.{length, get_or, drop, length-map}
use lib.Seq.{take-append_seam, get_or-append-add}
use Rattle.table.specs.Limits.{place_size}
use Rattle.table.specs.Table.{zeros}
use Rattle.table.proofs.Decode.{decode}
use Rattle.ldc.specs.Lists.{flat}
use Rattle.ldc.specs.Store.{Card, free, Store, size, card, links, links_of, is_live, bytes_at, level}
use Rattle.ldc.specs.Rules.{times_listed}
use Rattle.ldc.specs.Lent.{places_in, sizes_good, list_length, list_part, chop, level_of, store_of, lent_of}
use Rattle.ldc.proofs.Stores.Sound.{Sound, Whole}
use Rattle.ldc.proofs.Basics.ListLaws.{spell, get_d_map, get_or-mem, at_most, parts, Each, length-flat, length-within, get_or-parts, parts-flat}
use Rattle.ldc.proofs.Lent.Parts.{length-rows, cards-rows, marks-read, length-marks, padded, length-padded}
use Rattle.ldc.proofs.Stores.SoundRules.{beyond, threshold-eight}
use Rattle.ldc.specs.Layout.{mark_words, most_places, fewest_places, link_limit}

-- Places are parts of 1,024 bytes.
pub chop-parts : (n : ℕ) (s : List ℕ) → chop n s ≡ parts place_size n s
chop-parts zero s = refl
chop-parts (suc n) s = rw (chop-parts n (drop place_size s))

at_most_one : (b : Bool) → cond b 1 0 ≤ 1
at_most_one true = omega arith
at_most_one false = omega arith

module _ (s : Store) (so : Sound s) where
  -- No card has more than eight links.
  pub few-links : (c : Card) → Memᴰ c s.cards → length (links_of c) ≤ link_limit
  unfolding links card
  few-links c m =
      let spot = get_or-mem s.cards free m in
      let few : length (links_of c) ≤ s.threshold = rw spot.2 at (so.few spot.0) in
      omega (arith, threshold-eight s so.rule_a-kept)

  -- No list is longer than there are places.
  pub level-fits : (n : ℕ) → length (level s n) ≤ size s
  unfolding level times_listed
  level-fits n =
      let all : length (flat s.levels) ≤ size s =
      at_most (size s) (flat s.levels)
      (λ p. omega (arith, so.listed p, at_most_one (is_live (card s p))))
      (λ p h. so.listed p ∙ rw (beyond s p h)) in
      omega (arith, length-within s.levels n)

module _ (s : Store) (so : Sound s) (w : Whole s) where
  each-place : Each place_size s.places
  unfolding bytes_at
  each-place i h = w i (omega (arith, so.placed))

  length-area : length (lent_of s).area ≡ size s * place_size
  unfolding lent_of
  length-area = length-flat place_size s.places each-place ∙ rw so.placed

  -- As many places as cards.
  pub places-lent_of : places_in (lent_of s).area ≡ size s
  unfolding places_in
  places-lent_of = omega (arith, length-area)

  -- The four parts of the lists.
  laid : List (List ℕ)
  laid = map (padded (length s.places)) s.levels

  get_or-laid : (n : ℕ) → n < 4 → get_or laid n [] ≡ padded (size s) (level s n)
  unfolding laid level
  get_or-laid n h = get_d_map (padded (length s.places)) s.levels n [] [] (omega (arith, so.four)) ∙ rw so.placed

  length-laid : length laid ≡ 4
  unfolding laid
  length-laid = length-map s.levels (padded (length s.places)) ∙ so.four

  each_laid : Each (size s) laid
  each_laid i h =
      let near : i < 4 = omega (arith, length-laid) in
      rw (get_or-laid i near) (length-padded (size s) (level s i) (level-fits s so i))

  length-lists : length (lent_of s).lists ≡ 4 * size s
  unfolding lent_of laid
  length-lists = length-flat (size s) laid each_laid ∙ rw length-laid

  pub sizes-lent_of : sizes_good (lent_of s) ≡ true
  unfolding sizes_good
  sizes-lent_of =
      let whole : length (lent_of s).area % place_size ≡ 0 = omega (arith, length-area) in
      let cards : length (lent_of s).cards ≡ size s = unfold lent_of size in (length-rows s.cards s.places) in
      rw (places-lent_of, eq-eqb _ _ whole, le-leb fewest_places (size s) so.fewest, le-leb (size s) most_places so.most, eq-eqb _ _ cards)
      (eq-eqb _ _ length-lists)

  -- ---- the level lists

  pub part-lent_of : (n : ℕ) → n < 4 → list_part (lent_of s) n ≡ padded (size s) (level s n)
  part-lent_of n h =
      let back : parts (size s) 4 (lent_of s).lists ≡ laid =
      unfold lent_of laid in (rw length-laid at (parts-flat (size s) laid each_laid)) in
      rw places-lent_of
      (sym (get_or-parts (size s) 4 (lent_of s).lists n h) ∙ ap (λ (xss : List (List ℕ)). get_or xss n []) back ∙ get_or-laid n h)

  -- The words of the head behind the marks are the lists' lengths.
  pub length-lent_of : (n : ℕ) → n < 4 → list_length (lent_of s) n ≡ length (level s n)
  unfolding lent_of level
  length-lent_of n h =
      let words : List ℕ = flat (map mark_words s.marks) in
      let four : length words ≡ 4 = length-marks s.marks ∙ rw so.two in
      let e : 6 + n ≡ suc (suc (length words + n)) = omega arith in
      rw e
      (get_or-append-add words (map (λ ps. length ps) s.levels) n 0
      ∙ get_d_map (λ ps. length ps) s.levels n [] 0 (omega (arith, so.four)))

  pub level-lent_of : (n : ℕ) → n < 4 → level_of (lent_of s) n ≡ level s n
  unfolding level_of
  level-lent_of n h = rw (length-lent_of n h, part-lent_of n h) (take-append_seam (level s n) (zeros (size s - length (level s n))))

  -- ---- the store

  levels-back : (store_of (lent_of s)).levels ≡ s.levels
  unfolding store_of
  levels-back =
      rw (level-lent_of 0 (omega arith), level-lent_of 1 (omega arith), level-lent_of 2 (omega arith), level-lent_of 3 (omega arith))
      (unfold level in sym (spell 4 [] s.levels so.four))

  marks-back : (store_of (lent_of s)).marks ≡ s.marks
  unfolding store_of lent_of
  marks-back = rw (spell 2 none s.marks so.two) (marks-read _ _ _)

  cards-back : (store_of (lent_of s)).cards ≡ s.cards
  unfolding store_of lent_of
  cards-back = cards-rows s.cards s.places (few-links s so)

  places-back : (store_of (lent_of s)).places ≡ s.places
  unfolding store_of
  places-back = rw (places-lent_of, chop-parts, ← so.placed) (unfold lent_of in parts-flat place_size s.places each-place)

  memory-back : (store_of (lent_of s)).memory ≡ s.memory
  unfolding store_of lent_of
  memory-back = decode s.memory so.memory

  pub store_of-lent_of : store_of (lent_of s) ≡ s
  unfolding store_of lent_of
  store_of-lent_of i = record {
    threshold = s.threshold;
    cursor = s.cursor;
    marks = marks-back i;
    levels = levels-back i;
    cards = cards-back i;
    places = places-back i;
    memory = memory-back i;
  }
