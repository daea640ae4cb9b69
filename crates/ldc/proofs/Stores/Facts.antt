-- What soundness tells of a place in a list, of a table and of a link.
use Prim.Native.Nat.{ℕ, zero, suc, ◌+◌, ◌≤◌, ◌<◌}
use mathlib.Core.Path.{◌≡◌, refl, sym, ◌∙◌, ap}
use mathlib.Core.List.{List, [], ◌∷◌, Memᴰ}
use mathlib.Core.Bool.{true, false, not}
use native.Mathlib.Omega.{arith}
use borrow.Author.Tests.{leb-true, ltb-true, lt-ltb}
use lib.Dec.{leb, ltb, eqb}
use lib.ListN.{get_or}
use Rattle.table.specs.Valid.{Valid}
use Rattle.ldc.specs.Lists.{how_many, is_empty}
use Rattle.ldc.specs.Store.{Link, Store, size, card, links, is_free, is_live, is_frozen, bytes_at, table, level, slice}
use Rattle.ldc.specs.Rules.{rule_a, threshold_good, times_listed, link_good}
use Rattle.ldc.proofs.Basics.Cases.{cases, both, both_left, both_right, negated}
use Rattle.ldc.proofs.Stores.CardFacts.{live-not-free}
use Rattle.ldc.proofs.Basics.Counts.{one, total, how_many-flat, member-counted}
use Rattle.ldc.proofs.Stores.Sound.{Sound}
use Rattle.ldc.proofs.Stores.Spans.{Readable, rise-all}
use Rattle.ldc.proofs.Stores.TableLaws.{place-valid, place-some}
use Rattle.ldc.specs.Facts.{Spans}

-- ---- rule A

pub cursor-sound : (s : Store) → rule_a s ≡ true → s.cursor < size s
unfolding rule_a
cursor-sound s h = ltb-true s.cursor (size s) (both_right (threshold_good s.threshold) (ltb s.cursor (size s)) h)

pub threshold-sound : (s : Store) → rule_a s ≡ true → threshold_good s.threshold ≡ true
unfolding rule_a
threshold-sound s h = both_left (threshold_good s.threshold) (ltb s.cursor (size s)) h

pub rule_a-of : (s : Store) → threshold_good s.threshold ≡ true → s.cursor < size s → rule_a s ≡ true
unfolding rule_a
rule_a-of s t c = both (threshold_good s.threshold) (ltb s.cursor (size s)) t (lt-ltb s.cursor (size s) c)

-- ---- sums

module _ {A : Type 0} where
  pub total-part : (f : A → ℕ) (xs : List A) (i : ℕ) (d : A) → f d ≡ 0 → f (get_or xs i d) ≤ total f xs
  total-part f [] i d z = omega arith
  total-part f (x ∷ xs) zero d z = omega arith
  total-part f (x ∷ xs) (suc i) d z = omega (arith, total-part f xs i d z)

  pub total-parts : (f : A → ℕ) (xs : List A) (i j : ℕ) (d : A) → f d ≡ 0 → (i ≡ j → ⊥) → f (get_or xs i d) + f (get_or xs j d) ≤ total f xs
  total-parts f [] i j d z n = omega arith
  total-parts f (x ∷ xs) zero zero d z n = absurd (n refl)
  total-parts f (x ∷ xs) zero (suc j) d z n = omega (arith, total-part f xs j d z)
  total-parts f (x ∷ xs) (suc i) zero d z n = omega (arith, total-part f xs i d z)
  total-parts f (x ∷ xs) (suc i) (suc j) d z n = omega (arith, total-parts f xs i j d z (λ e. n (ap suc e)))

-- ---- lists

module _ (s : Store) (S : Sound s) where
  -- how often a place stands in all lists
  pub listed-total : (p : ℕ) → total (how_many (eqb p)) s.levels ≡ one (is_live (card s p))
  unfolding times_listed
  listed-total p = sym (how_many-flat (eqb p) s.levels) ∙ S.listed p

  -- and in one of them
  pub listed-part : (n p : ℕ) → how_many (eqb p) (level s n) ≤ one (is_live (card s p))
  unfolding level
  listed-part n p = omega (arith, listed-total p, total-part (how_many (eqb p)) s.levels n [] refl)

  pub listed-live : (n p : ℕ) → Memᴰ p (level s n) → is_live (card s p) ≡ true
  listed-live n p m =
      cases (is_live (card s p))
      (λ q. q)
      (λ q. let o : one (is_live (card s p)) ≡ 0 = rw q in
      absurd (omega (arith, listed-part n p, member-counted p (level s n) m)))

  -- a place stands in one list only
  pub listed-once : (n m p : ℕ) → (n ≡ m → ⊥) → Memᴰ p (level s n) → Memᴰ p (level s m) → ⊥
  unfolding level
  listed-once n m p d a b =
      let o : one (is_live (card s p)) ≡ 1 = rw (listed-live n p a) in
      omega (
        arith,
        listed-total p,
        total-parts (how_many (eqb p)) s.levels n m [] refl d,
        member-counted p (level s n) a,
        member-counted p (level s m) b,
      )

  pub live_below : (p : ℕ) → is_live (card s p) ≡ true → is_free (card s p) ≡ false
  live_below p h = live-not-free (card s p) h

  -- ---- tables

  pub table-valid : (p : ℕ) → is_free (card s p) ≡ false → Valid (table s p)
  unfolding table
  table-valid p h = place-valid (bytes_at s p) (S.tables p h)

  pub table-readable : (p : ℕ) → is_free (card s p) ≡ false → Readable s p
  unfolding table
  table-readable p h = record { keys = (table-valid p h).keys; some = place-some (bytes_at s p) (S.tables p h) }

  pub listed-readable : (n p : ℕ) → Memᴰ p (level s n) → Readable s p
  listed-readable n p m = table-readable p (live-not-free (card s p) (listed-live n p m))

  pub level-spans : (n : ℕ) → Spans s 0 (level s (suc n))
  level-spans n = rise-all s (level s (suc n)) (λ p m. listed-readable (suc n) p m) (S.rising n)

  -- ---- links

  module _ (p : ℕ) (l : Link) (m : Memᴰ l (links s p)) where
    pub link-order : l.low ≤ l.high
    unfolding link_good
    link-order = leb-true l.low l.high (both_left (leb l.low l.high) _ (S.hung p l m))

    pub link-frozen : is_frozen (card s l.place) ≡ true
    unfolding link_good
    link-frozen = both_left (is_frozen (card s l.place)) _ (both_right (leb l.low l.high) _ (S.hung p l m))

    -- its range holds an entry
    pub link-holds : is_empty (slice s l) ≡ false
    unfolding link_good
    link-holds =
        negated (is_empty (slice s l))
        (both_left (not (is_empty (slice s l))) _
        (both_right (is_frozen (card s l.place)) _ (both_right (leb l.low l.high) _ (S.hung p l m))))
