-- Rules A to G, as they are tested, and `Sound`, as the proofs use it, say the same of a store. A test of every place below P becomes
-- a fact at every place: beyond P cards are free, no list item stands, and no link points there.
use Prim.Native.Nat.{ℕ, zero, suc, ◌≤◌, ◌<◌}
use mathlib.Core.Path.{◌≡◌, refl, sym, ◌∙◌}
use mathlib.Core.Bool.{Bool, true, false, cond, ◌||◌, beq, or-true, true≢false}
use mathlib.Core.List.Memᴰ
use mathlib.Core.List.{[], ◌++◌, Memᴰ}
use native.Mathlib.Omega.{arith}
use borrow.Author.Tests.{leb-true, lt-ltb, ltb-true, ltb-false, eq-eqb, eqb-true, ne_eqb}
use lib.Dec.{leb, ltb, eqb}
use lib.ListN.{length, get_or-eq_default}
use Rattle.coding.specs.Number.{Bytes}
use Rattle.table.specs.Table.{is_table}
use Rattle.table.specs.Valid.{Valid}
use Rattle.table.proofs.Tests.{and_parts, cases}
use Rattle.ldc.specs.Lists.{all, any, is_empty, flat, all_from}
use Rattle.ldc.specs.Store.{Link, free, Store, size, card, links, links_of, is_free, is_live, is_frozen, bytes_at, level}
use Rattle.ldc.specs.Rules.{threshold_good, rule_a, rule_b, rule_c, rule_e, rule_f, rule_g, times_listed, link_good, hung_on, all_apart, named, spans_rise}
use Rattle.ldc.specs.Layout.{level_count, most_places, fewest_places, link_limit}
use Rattle.ldc.proofs.Stores.Sound.{Sound, Whole, TablePlace}
use Rattle.ldc.proofs.Basics.ListLaws.{empty-list, all-at, all_of, any_at, get_or-mem, below_at, below_of, how_many-mem, how_many-zero}

-- Beyond the last, cards are free.
pub beyond : (s : Store) (p : ℕ) → size s ≤ p → card s p ≡ free
unfolding size card
beyond s p h = get_or-eq_default s.cards free h

-- A card that is not free lies below P.
pub below-size : (s : Store) (p : ℕ) → (card s p ≡ free → ⊥) → p < size s
below-size s p h = cases (ltb p (size s)) (λ q. ltb-true _ _ q) (λ q. absurd (h (beyond s p (ltb-false _ _ q))))

beq_same : (a : Bool) → beq a a ≡ true
beq_same true = refl
beq_same false = refl

same-beq : (a b : Bool) → beq a b ≡ true → a ≡ b
same-beq true true h = refl
same-beq true false h = sym h
same-beq false true h = h
same-beq false false h = refl

-- Rule A bounds the threshold.
pub threshold-eight : (s : Store) → rule_a s ≡ true → s.threshold ≤ link_limit
unfolding rule_a threshold_good
threshold-eight s h =
    leb-true _ _ (and_parts (leb 1 s.threshold) _ (and_parts (threshold_good s.threshold) (ltb s.cursor (size s)) h).0).1

-- What a good link names is frozen.
pub good-frozen : (s : Store) (l : Link) → link_good s l ≡ true → is_frozen (card s l.place) ≡ true
unfolding link_good
good-frozen s l h = (and_parts (is_frozen (card s l.place)) _ (and_parts (leb l.low l.high) _ h).1).0

-- ---- a sound store keeps the rules

module _ (s : Store) (so : Sound s) where
  -- What is listed is a place.
  pub listed_below : (p : ℕ) → Memᴰ p (flat s.levels) → p < size s
  unfolding times_listed
  listed_below p m =
      let once : 1 ≤ times_listed s p = how_many-mem (eqb p) (flat s.levels) m (eq-eqb p p refl) in
      below-size s p (λ e. let none : times_listed s p ≡ 0 = so.listed p ∙ rw e in omega arith)

  pub keeps-B : rule_b s ≡ true
  unfolding rule_b
  keeps-B =
      rw (all_of (λ p. ltb p (size s)) (flat s.levels) (λ p m. lt-ltb p (size s) (listed_below p m)))
      (below_of (size s) (λ p. eqb (times_listed s p) (cond (is_live (card s p)) 1 0)) (λ p h. eq-eqb _ _ (so.listed p)))

  pub keeps-C : rule_c s ≡ true
  unfolding rule_c
  keeps-C = below_of (size s) (λ p. is_free (card s p) || is_table (bytes_at s p))
      (λ p h. cases (is_free (card s p)) (λ q. rw q) (λ q. rw ((so.tables p q).good, or-true)))

  pub keeps-E : rule_e s ≡ true
  unfolding rule_e
  keeps-E =
      rw (
        all_of (λ p. is_empty (links s p)) (level s 0) (λ p m. rw (so.bare p m)),
        below_of (size s) (λ p. all (link_good s) (links s p)) (λ p h. all_of (link_good s) (links s p) (so.hung p)),
      )
      so.disjoint

  pub keeps-F : rule_f s ≡ true
  unfolding rule_f
  keeps-F = below_of (size s) (λ p. beq (is_frozen (card s p)) (named s p)) (λ p h. rw (so.naming p) (beq_same (named s p)))

  pub keeps-G : rule_g s ≡ true
  unfolding rule_g
  keeps-G = rw (so.rising 0, so.rising 1) (so.rising 2)

-- ---- a store that keeps the rules is sound

module _ (s : Store) where
  listed_of : rule_b s ≡ true → (p : ℕ) → times_listed s p ≡ cond (is_live (card s p)) 1 0
  unfolding rule_b times_listed
  listed_of b p =
      let both = and_parts (all (λ q. ltb q (size s)) (flat s.levels)) _ b in
      cases (ltb p (size s))
      (λ q. eqb-true _ _ (below_at (size s) (λ i. eqb (times_listed s i) (cond (is_live (card s i)) 1 0)) both.1 p (ltb-true _ _ q)))
      (λ q. let far : size s ≤ p = ltb-false _ _ q in
      rw (beyond s p far) (how_many-zero (eqb p) (flat s.levels)
      (λ x m. let near : x < size s = ltb-true _ _ (all-at (λ i. ltb i (size s)) (flat s.levels) both.0 m) in
      ne_eqb p x (λ e. omega arith))))

  tables-of : rule_c s ≡ true → Whole s → ((p : ℕ) → Bytes (bytes_at s p)) → (p : ℕ) → is_free (card s p) ≡ false → TablePlace (bytes_at s p)
  unfolding rule_c
  tables-of c w bytes p h =
      let near : p < size s = below-size s p (λ e. true≢false (rw e at h)) in
      record {
        long = w p near;
        bytes = bytes p;
        good = rw h at (below_at (size s) (λ i. is_free (card s i) || is_table (bytes_at s i)) c p near);
      }

  module _ (e : rule_e s ≡ true) where
    parts-E : (all (λ p. is_empty (links s p)) (level s 0) ≡ true)
        × (all_from (size s) 0 (λ p. all (link_good s) (links s p)) ≡ true)
        × (all_apart (hung_on s 1 ++ (hung_on s 2 ++ hung_on s 3)) ≡ true)
    unfolding rule_e
    parts-E =
        let a = and_parts (all (λ p. is_empty (links s p)) (level s 0)) _ e in
        let b = and_parts (all_from (size s) 0 (λ p. all (link_good s) (links s p))) _ a.1 in
        (a.0, b.0, b.1)

    bare_of : (p : ℕ) → Memᴰ p (level s 0) → links s p ≡ []
    bare_of p m = empty-list (links s p) (all-at (λ q. is_empty (links s q)) (level s 0) parts-E.0 m)

    hung-of : (p : ℕ) (l : Link) → Memᴰ l (links s p) → link_good s l ≡ true
    unfolding links
    hung-of p l m =
        let near : p < size s = below-size s p (λ q. Memᴰ.not-nil (rw q at m)) in
        all-at (link_good s) (links s p) (below_at (size s) (λ i. all (link_good s) (links s i)) parts-E.1 p near) m

    -- What a link names is frozen.
    named-frozen : (p : ℕ) → named s p ≡ true → is_frozen (card s p) ≡ true
    unfolding named links card size
    named-frozen p h =
        let on_card = any_at (λ c. any (λ l. eqb l.place p) (links_of c)) s.cards h in
        let on_link = any_at (λ l. eqb l.place p) (links_of on_card.0) on_card.2 in
        let spot = get_or-mem s.cards free on_card.1 in
        let l : Link = on_link.0 in
        let good : link_good s l ≡ true = hung-of spot.0 l (rw spot.2 on_link.1) in
        let here : l.place ≡ p = eqb-true _ _ on_link.2 in
        rw here at (good-frozen s l good)

    naming-of : rule_f s ≡ true → (p : ℕ) → is_frozen (card s p) ≡ named s p
    unfolding rule_f
    naming-of f p =
        cases (ltb p (size s))
        (λ q. same-beq _ _ (below_at (size s) (λ i. beq (is_frozen (card s i)) (named s i)) f p (ltb-true _ _ q)))
        (λ q. let far : card s p ≡ free = beyond s p (ltb-false _ _ q) in
        cases (named s p)
        (λ n. rw n (named-frozen p n))
        (λ n. rw (far, n)))

  rising-of : rule_g s ≡ true → length s.levels ≡ level_count → (n : ℕ) → spans_rise s (level s (suc n)) ≡ true
  unfolding rule_g level
  rising-of g four zero = (and_parts (spans_rise s (level s 1)) _ g).0
  rising-of g four (suc zero) = (and_parts (spans_rise s (level s 2)) _ (and_parts (spans_rise s (level s 1)) _ g).1).0
  rising-of g four (suc (suc zero)) = (and_parts (spans_rise s (level s 2)) _ (and_parts (spans_rise s (level s 1)) _ g).1).1
  rising-of g four (suc (suc (suc n))) = rw (get_or-eq_default s.levels [] {n = suc (suc (suc (suc n)))} (omega arith))

-- All that the rules say of a store.
pub record Kept (s : Store) : Type 0 where
  pub a : rule_a s ≡ true
  pub b : rule_b s ≡ true
  pub c : rule_c s ≡ true
  pub e : rule_e s ≡ true
  pub f : rule_f s ≡ true
  pub g : rule_g s ≡ true

-- The sizes of a store.
pub record Sized (s : Store) : Type 0 where
  pub fewest : fewest_places ≤ size s
  pub most : size s ≤ most_places
  pub placed : length s.places ≡ size s
  pub four : length s.levels ≡ level_count
  pub two : length s.marks ≡ 2

pub sound-of : (s : Store) → Sized s → Kept s → Valid s.memory → ((p : ℕ) → length (links s p) ≤ s.threshold)
    → Whole s → ((p : ℕ) → Bytes (bytes_at s p)) → Sound s
sound-of s z k valid few whole bytes = record {
  fewest = z.fewest;
  most = z.most;
  placed = z.placed;
  four = z.four;
  two = z.two;
  rule_a-kept = k.a;
  listed = listed_of s k.b;
  tables = tables-of s k.c whole bytes;
  memory = valid;
  bare = bare_of s k.e;
  few = few;
  hung = hung-of s k.e;
  disjoint = (parts-E s k.e).2;
  naming = naming-of s k.e k.f;
  rising = rising-of s k.g z.four;
}
