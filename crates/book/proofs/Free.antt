-- Free places over rows are those of a store whose cards the rows show; and one turn of the loops that seek and count them.
use Prim.Native.Nat.{ℕ, zero, suc, ◌<◌, ◌≤◌, ◌+◌, ◌-◌}
use mathlib.Core.Path.{◌≡◌, refl, sym, ◌∙◌, ap}
use mathlib.Core.Bool.{Bool, true, false, cond}
use mathlib.Core.List.{List, [], ◌∷◌, map}
use mathlib.Core.Option.{some, none}
use native.Mathlib.Omega.{arith}
use native.Mathlib.Numerals.{add-one}
use borrow.Author.Tests.{ltb-true, ltb-false}
use lib.Dec.{ltb, leb, eqb, leb-suc-zero, leb-suc-suc, eqb-suc-zero}
use lib.ListN.{length, get_or, length-map, get_or-map, drop}
use lib.Seq.{drop-cons}
use Rattle.ldc.specs.Lists.{how_many}
use Rattle.ldc.specs.Store.{Store, is_free, size, card}
use Rattle.ldc.specs.Lent.{lent_of}
use Rattle.ldc.specs.Place.{next_place, free_from, place_taken, free_places}
use Rattle.ldc.proofs.Basics.Cases.{cases}
use Rattle.ldc.proofs.Basics.ListLaws.{get_or-mem, how_many-zero}
use Rattle.ldc.proofs.Lent.Parts.{cards-rows}
use Rattle.ldc.proofs.Lent.Round.{few-links}
use Rattle.ldc.proofs.Stores.Places.{next-below, none_found}
use Rattle.ldc.proofs.Stores.Sound.{Sound}
use Rattle.ldc.specs.Layout.{state_of, card_of}
use Rattle.book.specs.Place.{the_index, free_row, free_at, free_rows}
use Rattle.std.specs.Prelude.{Some, None, is_some}
use Rattle.std.specs.Prelude as code

found-cond : (b : Bool) (p : ℕ) (f : code.Option ℕ) → the_index (cond b (Some p) f) ≡ cond b (some p) (the_index f)
found-cond true p f = refl
found-cond false p f = refl

how_many-map : {A B : Type 0} (f : A → B) (test : B → Bool) (xs : List A) → how_many test (map f xs) ≡ how_many (λ x. test (f x)) xs
how_many-map f test [] = refl
how_many-map f test (x ∷ xs) = rw (how_many-map f test xs)

module _ (s : Store) (rows : List (List ℕ)) (shown : s.cards ≡ map card_of rows) where
  -- Each place's card is that of its row; a place beyond all rows counts as free.
  pub card-shown : (p : ℕ) → card s p ≡ card_of (get_or rows p [])
  unfolding card card_of state_of
  card-shown p = rw shown (get_or-map card_of rows p [])

  pub size-shown : size s ≡ length rows
  unfolding size
  size-shown = rw shown (length-map rows card_of)

  -- The first free place over the rows is the store's.
  pub free-shown : (n p : ℕ) → the_index (free_at n rows p) ≡ free_from n s p
  unfolding free_at
  free-shown zero p = refl
  free-shown (suc n) p =
      found-cond (is_free (card_of (get_or rows p []))) p (free_at n rows (next_place (length rows) p))
      ∙ rw (card-shown p, size-shown, free-shown n (next_place (length rows) p))

  -- The place found from the cursor on is the one that is taken.
  pub taken-shown : (p : ℕ) → free_at (length rows) rows s.cursor ≡ Some p → place_taken s ≡ p
  unfolding place_taken
  taken-shown p h =
      rw (size-shown, ← free-shown (length rows) s.cursor, h)

  -- As many rows say free as places are.
  pub count-shown : free_rows rows ≡ free_places s
  unfolding free_rows free_places
  count-shown = rw shown (sym (how_many-map card_of is_free rows))

-- The rows of a sound store's memory show its cards.
pub sound-shown : (s : Store) → Sound s → s.cards ≡ map card_of (lent_of s).cards
unfolding lent_of
sound-shown s so = sym (cards-rows s.cards s.places (few-links s so))

-- ---- what a search says of the rows themselves

-- A place that is found is one, and its row says free.
pub found-free : (rows : List (List ℕ)) (n p q : ℕ) → p < length rows → free_at n rows p ≡ Some q
    → (q < length rows) × (free_row (get_or rows q []) ≡ true)
unfolding free_at
found-free rows zero p q h e = absurd (let z : ◌≡◌ {A = ℕ} 0 1 = cc in omega arith)
found-free rows (suc n) p q h e =
    cases (free_row (get_or rows p []))
    (λ f. let found : Some p ≡ Some q = rw f at e in
    let same : p ≡ q = cc in
    (rw (← same) h, rw (← same) f))
    (λ f. found-free rows n (next_place (length rows) p) q (next-below (length rows) p h) (rw f at e))

-- A store with these rows' cards and nothing else.
bare : List (List ℕ) → Store
bare rows = record { threshold = 0; cursor = 0; marks = []; levels = []; cards = map card_of rows; places = []; memory = [] }

-- Where none is found going round, none is free.
pub none_free : (rows : List (List ℕ)) (p : ℕ) → p < length rows → free_at (length rows) rows p ≡ None → free_rows rows ≡ 0
unfolding free_rows bare
none_free rows p h e =
    let s : Store = bare rows in
    let many : size s ≡ length rows = size-shown s rows refl in
    let none' : free_from (size s) s p ≡ none = sym (free-shown s rows refl (size s) p) ∙ rw (many, e) in
    let passed = none_found s (size s) p (omega arith) none' in
    let each : (q : ℕ) → q < length rows → is_free (card s q) ≡ false =
    λ q k. cases (ltb q p)
    (λ l. passed.1 q (omega (arith, ltb-true q p l)) (omega arith))
    (λ l. passed.0 q (ltb-false q p l) (omega (arith, ltb-false q p l)) (omega arith)) in
    how_many-zero free_row rows
    (λ row m. let spot = get_or-mem rows [] m in
    rw (← spot.2, ← card-shown s rows refl spot.0) (each spot.0 spot.1))

some-else : (o : code.Option ℕ) → (o ≡ None → ⊥) → is_some o ≡ true
some-else None h = absurd (h refl)
some-else (Some p) h = refl

-- Where one is free, one is found.
pub found-some : (rows : List (List ℕ)) (p : ℕ) → p < length rows → 1 ≤ free_rows rows → is_some (free_at (length rows) rows p) ≡ true
found-some rows p h enough = some-else (free_at (length rows) rows p) (λ e. omega (arith, none_free rows p h e))

-- ---- one turn of the loops over rows

-- The first free place is this one, or the first from the next on.
pub free-turn : (rows : List (List ℕ)) (n i p : ℕ) → i < n
    → free_at (n - i) rows p ≡ cond (free_row (get_or rows p [])) (Some p) (free_at (n - (i + 1)) rows (next_place (length rows) p))
unfolding free_at
free-turn rows n i p h =
    let e : n - i ≡ suc (n - (i + 1)) = omega arith in
    rw e

-- As many are free as behind this row, and this one if it is.
pub count_turn : (rows : List (List ℕ)) (i : ℕ) → i < length rows
    → free_rows (drop i rows) ≡ cond (free_row (get_or rows i [])) (suc (free_rows (drop (i + 1) rows))) (free_rows (drop (i + 1) rows))
unfolding free_rows
count_turn rows i h = rw (add-one i, drop-cons rows i [] h)

-- One less is wanted of one less.
pub least-turn : (k n : ℕ) → (k ≡ 0 → ⊥) → leb k (suc n) ≡ leb (k - 1) n
least-turn k n h =
    let e : k ≡ suc (k - 1) = omega arith in
    ap (λ j. leb j (suc n)) e ∙ leb-suc-suc (k - 1) n

-- Of none, only none can be wanted.
pub least-none : (k : ℕ) → leb k 0 ≡ eqb k 0
least-none zero = refl
least-none (suc k) = rw (leb-suc-zero k, eqb-suc-zero k)
