-- The place taken is free and in range if any place is free: a search that finds none has gone round all of them.
use Prim.Native.Nat.{ℕ, zero, suc, ◌+◌, ◌≤◌, ◌<◌}
use mathlib.Core.Path.{◌≡◌, refl}
use mathlib.Core.List.{List, [], ◌∷◌}
use mathlib.Core.Bool.{Bool, true, false}
use mathlib.Core.Option.{Option, some, none}
use native.Mathlib.Omega.{arith}
use borrow.Author.Tests.{eqb-true, eqb-false, ltb-true, ltb-false}
use lib.Dec.{ltb, eqb}
use lib.ListN.{length, get_or}
use Rattle.ldc.specs.Lists.{how_many}
use Rattle.ldc.specs.Store.{Store, free, is_free, size, card}
use Rattle.ldc.specs.Place.{next_place, free_from, place_taken, free_places}
use Rattle.ldc.proofs.Basics.Cases.{cases, maybe}

pub next-below : (n p : ℕ) → p < n → next_place n p < n
unfolding next_place
next-below n p h =
    cases (eqb (suc p) n)
    (λ q. rw q (omega arith))
    (λ q. let d : suc p ≡ n → ⊥ = eqb-false (suc p) n q in rw q (omega arith))

module _ (s : Store) where
  -- what is found is free and in range
  pub free-found : (n p q : ℕ) → p < size s → free_from n s p ≡ some q → (is_free (card s q) ≡ true) × (q < size s)
  free-found zero p q h e = absurd (let z : ◌≡◌ {A = ℕ} 0 1 = cc in omega arith)
  free-found (suc n) p q h e =
      cases (is_free (card s p))
      (λ f. let pq : ◌≡◌ {A = Option ℕ} (some p) (some q) = rw f at e in
      let r : p ≡ q = cc in (rw (← r) f, rw (← r) h))
      (λ f. free-found n (next_place (size s) p) q (next-below (size s) p h) (rw f at e))

  -- a search over n places from p that finds none has passed those from p up, and, going round, those from 0 up
  pub none_found : (n p : ℕ) → p < size s → free_from n s p ≡ none
      → ((q : ℕ) → p ≤ q → q < p + n → q < size s → is_free (card s q) ≡ false)
      × ((q : ℕ) → q + size s < p + n → q < size s → is_free (card s q) ≡ false)
  unfolding next_place
  none_found zero p h e = ((λ q l m k. absurd (omega arith)), (λ q l k. absurd (omega arith)))
  none_found (suc n) p h e =
      cases (is_free (card s p))
      (λ f. absurd (let w : ◌≡◌ {A = Option ℕ} (some p) none = rw f at e in let z : ◌≡◌ {A = ℕ} 0 1 = cc in omega arith))
      (λ f.
      let e' : free_from n s (next_place (size s) p) ≡ none = rw f at e in
      cases (eqb (suc p) (size s))
      (λ l. let last : suc p ≡ size s = eqb-true (suc p) (size s) l in
      let e'' : free_from n s 0 ≡ none = rw l at e' in
      let ih = none_found n 0 (omega arith) e'' in (
        (λ q a b k. let pq : p ≡ q = omega arith in rw pq at f),
        (λ q a k. ih.0 q (omega arith) (omega arith) k),
      ))
      (λ l. let d : suc p ≡ size s → ⊥ = eqb-false (suc p) (size s) l in
      let e'' : free_from n s (suc p) ≡ none = rw l at e' in
      let ih = none_found n (suc p) (omega arith) e'' in (
        (λ q a b k. cases (eqb p q)
            (λ pq. rw (eqb-true p q pq) at f)
            (λ pq. let dq : p ≡ q → ⊥ = eqb-false p q pq in ih.0 q (omega arith) (omega arith) k)),
        (λ q a k. ih.1 q (omega arith) k),
      )))

  none_free : free_from (size s) s s.cursor ≡ none → s.cursor < size s → (q : ℕ) → q < size s → is_free (card s q) ≡ false
  none_free e h q k =
      let passed = none_found (size s) s.cursor h e in
      cases (ltb q s.cursor)
      (λ lt. passed.1 q (omega (arith, ltb-true q s.cursor lt)) k)
      (λ ge. passed.0 q (ltb-false q s.cursor ge) (omega (arith, ltb-false q s.cursor ge)) k)

-- no element passes the test
how_many-none : {A : Type 0} (t : A → Bool) (xs : List A) (d : A) → ((i : ℕ) → i < length xs → t (get_or xs i d) ≡ false) → how_many t xs ≡ 0
how_many-none t [] d h = refl
how_many-none t (x ∷ xs) d h = rw (h 0 (omega arith)) (how_many-none t xs d (λ i k. h (suc i) (omega arith)))

module _ (s : Store) (in_range : s.cursor < size s) (some-free : 1 ≤ free_places s) where
  taken : (is_free (card s (place_taken s)) ≡ true) × (place_taken s < size s)
  unfolding place_taken free_places card size
  taken =
      maybe (free_from (size s) s s.cursor)
      (λ e. absurd (let z : how_many is_free s.cards ≡ 0 = how_many-none is_free s.cards free (none_free s e in_range) in omega arith))
      (λ q e. rw e (free-found s (size s) s.cursor q in_range e))

  -- the place taken is free
  pub taken_free : is_free (card s (place_taken s)) ≡ true
  taken_free = taken.0

  -- and it is a place
  pub taken-below : place_taken s < size s
  taken-below = taken.1
