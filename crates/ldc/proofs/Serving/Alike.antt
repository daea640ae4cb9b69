-- Stores that differ in nothing but the bytes of free places. All else of them is the same, so one is the other with other places;
-- what reads the book alone gives the same of both by that equation.
use Prim.Native.Nat.{ℕ, zero, suc}
use mathlib.Core.Path.{◌≡◌, refl, ◌∙◌, ap}
use mathlib.Core.List.{List, [], ◌∷◌, map}
use mathlib.Core.Bool.{false}
use mathlib.Core.Option
use native.Mathlib.Omega.{arith}
use lib.ListN.{length, get_or}
use Rattle.ldc.specs.Store.{Card, free, is_free, Store, new_store, size, card, links, bytes_at, level, mark}
use Rattle.ldc.specs.Rules.{named}
use Rattle.ldc.specs.Place.{next_place, free_from, place_taken, free_places}
use Rattle.ldc.proofs.Basics.Cases.{clash}

pub record Alike (s s' : Store) : Type 0 where
  pub same-threshold : s'.threshold ≡ s.threshold
  pub same-cursor : s'.cursor ≡ s.cursor
  pub same-marks : s'.marks ≡ s.marks
  pub same-levels : s'.levels ≡ s.levels
  pub same-cards : s'.cards ≡ s.cards
  pub same_memory : s'.memory ≡ s.memory
  pub as_many : length s'.places ≡ length s.places
  pub same_bytes : (p : ℕ) → is_free (card s p) ≡ false → bytes_at s' p ≡ bytes_at s p

-- ---- new stores

-- Over as many places, with any bytes.
free-cards : (places places' : List (List ℕ)) → length places' ≡ length places → map (λ _. free) places' ≡ map (λ _. free) places
free-cards [] [] h = refl
free-cards [] (y ∷ ys) h = absurd (omega arith)
free-cards (x ∷ xs) [] h = absurd (omega arith)
free-cards (x ∷ xs) (y ∷ ys) h = ap (λ (cs : List Card). free ∷ cs) (free-cards xs ys (omega arith))

free-card : (places : List (List ℕ)) (p : ℕ) → get_or (map (λ _. free) places) p free ≡ free
free-card [] p = refl
free-card (x ∷ xs) zero = refl
free-card (x ∷ xs) (suc p) = free-card xs p

pub alike-new : (t : ℕ) (places places' : List (List ℕ)) → length places' ≡ length places → Alike (new_store t places) (new_store t places')
unfolding new_store card
alike-new t places places' h = record {
  same-threshold = refl;
  same-cursor = refl;
  same-marks = refl;
  same-levels = refl;
  same-cards = free-cards places places' h;
  same_memory = refl;
  as_many = h;
  same_bytes = λ p f. let e = free-card places p in clash (rw e) f;
}

-- ---- the book

-- A store with other places.
abbrev over : List (List ℕ) → Store → Store
over places s = record {
  threshold = s.threshold;
  cursor = s.cursor;
  marks = s.marks;
  levels = s.levels;
  cards = s.cards;
  places = places;
  memory = s.memory;
}

free_from-over : (places : List (List ℕ)) (s : Store) (n p : ℕ) → free_from n (over places s) p ≡ free_from n s p
unfolding card size
free_from-over places s zero p = refl
free_from-over places s (suc n) p = rw (free_from-over places s n (next_place (size s) p))

module _ (s s' : Store) (a : Alike s s') where
  pub alike_is : s' ≡ over s'.places s
  alike_is = λ i. record {
    threshold = a.same-threshold i;
    cursor = a.same-cursor i;
    marks = a.same-marks i;
    levels = a.same-levels i;
    cards = a.same-cards i;
    places = s'.places;
    memory = a.same_memory i;
  }

  pub size-alike : size s' ≡ size s
  unfolding size
  size-alike = ap size alike_is

  pub card-alike : (p : ℕ) → card s' p ≡ card s p
  unfolding card
  card-alike p = ap (λ x. card x p) alike_is

  pub links-alike : (p : ℕ) → links s' p ≡ links s p
  unfolding links card
  links-alike p = ap (λ x. links x p) alike_is

  pub level-alike : (n : ℕ) → level s' n ≡ level s n
  unfolding level
  level-alike n = ap (λ x. level x n) alike_is

  pub mark-alike : (n : ℕ) → mark s' n ≡ mark s n
  unfolding mark
  mark-alike zero = refl
  mark-alike (suc n) = ap (λ x. mark x (suc n)) alike_is

  pub free_places-alike : free_places s' ≡ free_places s
  unfolding free_places
  free_places-alike = ap free_places alike_is

  pub named-alike : (p : ℕ) → named s' p ≡ named s p
  unfolding named
  named-alike p = ap (λ x. named x p) alike_is

  -- the same place is taken
  pub taken-alike : place_taken s' ≡ place_taken s
  unfolding place_taken size
  taken-alike = ap place_taken alike_is ∙ ap (λ o. Option.get_or o 0) (free_from-over s'.places s (size s) s.cursor)
