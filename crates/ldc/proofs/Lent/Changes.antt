-- What is lent of a store with one part changed: a card is a row, a place and a level list are runs of the area and of the lists, and the head has a
-- word for each number. So a step of the definition is a few stores into the lent memory.
use Prim.Native.Nat.{ℕ, zero, suc, ◌+◌, ◌*◌, ◌≤◌, ◌<◌}
use mathlib.Core.Path.{◌≡◌, refl, sym, ◌∙◌, ap}
use mathlib.Core.List.{List, [], ◌∷◌, ◌++◌, map}
use mathlib.Core.Option.{Option, some, none}
use native.Mathlib.Omega.{arith}
use native.Mathlib.Nat.{zero-mul, suc-mul}
use lib.ListN.{length, get_or, set, length-set, length-map}
use lib.Seq.{sets}
use Rattle.coding.proofs.Sets.{sets-all, sets-left, sets-right}
use Rattle.table.specs.Limits.{place_size}
use Rattle.ldc.specs.Lists.{flat}
use Rattle.ldc.specs.Store.{Card, Store, bytes_at, with_card, with_level, with_place, with_cursor, with_marks}
use Rattle.ldc.specs.Lent.{lent_of}
use Rattle.ldc.proofs.Basics.ListLaws.{Each}
use Rattle.ldc.proofs.Lent.Parts.{rows-card, rows_both, padded, length-padded}
use Rattle.ldc.specs.Layout.{row_of, mark_words, length_word}

-- ---- lists of equal parts

module _ {A B : Type 0} where
  pub map-set : (f : A → B) (xs : List A) (i : ℕ) (y : A) → map f (set xs i y) ≡ set (map f xs) i (f y)
  map-set f [] i y = refl
  map-set f (x ∷ xs) zero y = refl
  map-set f (x ∷ xs) (suc i) y = ap (λ (zs : List B). f x ∷ zs) (map-set f xs i y)

module _ {A : Type 0} where
  -- One part replaced is a run of stores into the whole.
  pub flat-set : (k : ℕ) (xss : List (List A)) (i : ℕ) (ys : List A) → Each k xss → i < length xss → length ys ≡ k → flat (set xss i ys) ≡ sets (flat xss) (i * k) ys
  flat-set k [] i ys e h l = absurd (omega arith)
  flat-set k (xs ∷ xss) zero ys e h l =
      let z : zero * k ≡ 0 = zero-mul k in
      let n : length xs ≡ k = e 0 (omega arith) in
      rw z (sym (sets-left xs (flat xss) 0 ys (omega arith) ∙ ap (λ (zs : List A). zs ++ flat xss) (sets-all xs ys (l ∙ sym n))))
  flat-set k (xs ∷ xss) (suc i) ys e h l =
      let n : length xs ≡ k = e 0 (omega arith) in
      let z : suc i * k ≡ length xs + i * k = suc-mul i k ∙ omega arith in
      rw z (ap (λ (zs : List A). xs ++ zs) (flat-set k xss i ys (λ j m. e (suc j) (omega arith)) (omega arith) l)
      ∙ sym (sets-right xs (flat xss) (i * k) ys))

-- ---- cards, places, memory

-- A mark has two words.
two-words : (m : Option ℕ) → (f : ℕ) × ((k : ℕ) × (mark_words m ≡ f ∷ k ∷ []))
two-words none = (0, (0, refl))
two-words (some k) = (1, (k, refl))

module _ (s : Store) where
  pub cards-with_card : (p : ℕ) (c : Card) → (lent_of (with_card p c s)).cards ≡ set (lent_of s).cards p (row_of c (bytes_at s p))
  unfolding lent_of bytes_at
  cards-with_card p c = rows-card s.cards s.places p c

  -- a card changed with its place's bytes
  pub cards-with_place : (p : ℕ) (c : Card) (b : List ℕ) → p < length s.places
      → (lent_of (with_place p b (with_card p c s))).cards ≡ set (lent_of s).cards p (row_of c b)
  unfolding lent_of
  cards-with_place p c b h = rows_both s.cards s.places p c b h

  pub area-with_place : (p : ℕ) (b : List ℕ) → Each place_size s.places → p < length s.places → length b ≡ place_size
      → (lent_of (with_place p b s)).area ≡ sets (lent_of s).area (p * place_size) b
  unfolding lent_of
  area-with_place p b e h l = flat-set place_size s.places p b e h l

  -- the lists do not change with a place's bytes
  pub lists-with_place : (p : ℕ) (b : List ℕ) → (lent_of (with_place p b s)).lists ≡ (lent_of s).lists
  unfolding lent_of
  lists-with_place p b = ap (λ (n : ℕ). flat (map (λ ps. padded n ps) s.levels)) (length-set s.places p b)

  -- ---- level lists

  -- The lists are parts of P items each.
  pub each-padded : (n : ℕ) (pss : List (List ℕ)) → ((i : ℕ) → i < length pss → length (get_or pss i []) ≤ n) → Each n (map (λ ps. padded n ps) pss)
  each-padded n [] h i k = absurd (omega arith)
  each-padded n (ps ∷ pss) h zero k = length-padded n ps (h 0 (omega arith))
  each-padded n (ps ∷ pss) h (suc i) k = each-padded n pss (λ j m. h (suc j) (omega arith)) i (omega arith)

  pub lists-with_level : (n : ℕ) (ps : List ℕ) → ((i : ℕ) → i < length s.levels → length (get_or s.levels i []) ≤ length s.places) → n < length s.levels
      → length ps ≤ length s.places → (lent_of (with_level n ps s)).lists ≡ sets (lent_of s).lists (n * length s.places) (padded (length s.places) ps)
  unfolding lent_of
  lists-with_level n ps e h l =
      ap flat (map-set (λ qs. padded (length s.places) qs) s.levels n ps)
      ∙ flat-set (length s.places) (map (λ qs. padded (length s.places) qs) s.levels) n (padded (length s.places) ps)
      (each-padded (length s.places) s.levels e) (simp length-map (omega arith)) (length-padded (length s.places) ps l)

  -- ---- the head

  pub head-with_cursor : (c : ℕ) → (lent_of (with_cursor c s)).head ≡ set (lent_of s).head 1 c
  unfolding lent_of
  head-with_cursor c = refl

  -- with two marks, the lengths of the lists begin at word 6
  pub head-with_level : (a b : Option ℕ) → s.marks ≡ a ∷ b ∷ [] → (n : ℕ) (ps : List ℕ) → (lent_of (with_level n ps s)).head ≡ set (lent_of s).head (length_word n) (length ps)
  unfolding lent_of
  head-with_level a b e n ps =
      let x = two-words a in
      let y = two-words b in
      let z : 6 + n ≡ suc (suc (suc (suc (suc (suc n))))) = omega arith in
      rw (e, x.1.1, y.1.1, z)
      (ap (λ (ws : List ℕ). s.threshold ∷ s.cursor ∷ x.0 ∷ x.1.0 ∷ y.0 ∷ y.1.0 ∷ ws) (map-set (λ (qs : List ℕ). length qs) s.levels n ps))

  -- the words of both marks
  pub head-with_marks : (a b c d : Option ℕ) → s.marks ≡ a ∷ b ∷ [] → (lent_of (with_marks (c ∷ d ∷ []) s)).head ≡ sets (lent_of s).head 2 (mark_words c ++ mark_words d)
  unfolding lent_of
  head-with_marks a b c d e =
      let x = two-words a in
      let y = two-words b in
      let u = two-words c in
      let v = two-words d in
      rw (e, x.1.1, y.1.1, u.1.1, v.1.1)
