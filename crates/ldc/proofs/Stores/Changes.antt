-- What stands where in a store with one part changed: at the changed part the new, elsewhere the old.
use Prim.Native.Nat.{ℕ, ◌≤◌, ◌<◌}
use mathlib.Core.Path.{◌≡◌}
use mathlib.Core.List.{List}
use mathlib.Core.Bool.{false}
use borrow.Author.Tests.{ltb-true, ltb-false}
use lib.Dec.{ltb}
use lib.ListN.{length, length-set, get_or-eq_default}
use lib.Seq.{get_or-set_same, get_or-set_other}
use Rattle.ldc.specs.Store.{Card, free, is_free, Store, size, card, bytes_at, level, with_card, with_level, with_place}
use Rattle.ldc.proofs.Basics.Cases.{cases, clash}

module _ (s : Store) where
  -- ---- cards

  pub card-same : (p : ℕ) (c : Card) → p < size s → card (with_card p c s) p ≡ c
  unfolding card size
  card-same p c h = get_or-set_same s.cards p c free h

  pub card-other : (p : ℕ) (c : Card) (q : ℕ) → (q ≡ p → ⊥) → card (with_card p c s) q ≡ card s q
  unfolding card
  card-other p c q h = get_or-set_other s.cards p q c free h

  pub size-with_card : (p : ℕ) (c : Card) → size (with_card p c s) ≡ size s
  unfolding size
  size-with_card p c = length-set s.cards p c

  -- a card that is not free is that of a place
  pub beyond-free : (p : ℕ) → size s ≤ p → card s p ≡ free
  unfolding card size
  beyond-free p h = get_or-eq_default s.cards free h

  pub below-size : (p : ℕ) → is_free (card s p) ≡ false → p < size s
  below-size p h =
      cases (ltb p (size s))
      (λ lt. ltb-true p (size s) lt)
      (λ ge. let e : card s p ≡ free = beyond-free p (ltb-false p (size s) ge) in clash (rw e) h)

  -- ---- levels

  pub level-same : (n : ℕ) (ps : List ℕ) → n < length s.levels → level (with_level n ps s) n ≡ ps
  unfolding level
  level-same n ps h = get_or-set_same s.levels n ps _ h

  pub level-other : (n : ℕ) (ps : List ℕ) (m : ℕ) → (m ≡ n → ⊥) → level (with_level n ps s) m ≡ level s m
  unfolding level
  level-other n ps m h = get_or-set_other s.levels n m ps _ h

  -- ---- bytes

  pub bytes_same : (p : ℕ) (b : List ℕ) → p < length s.places → bytes_at (with_place p b s) p ≡ b
  unfolding bytes_at
  bytes_same p b h = get_or-set_same s.places p b _ h

  pub bytes-other : (p : ℕ) (b : List ℕ) (q : ℕ) → (q ≡ p → ⊥) → bytes_at (with_place p b s) q ≡ bytes_at s q
  unfolding bytes_at
  bytes-other p b q h = get_or-set_other s.places p q b _ h
