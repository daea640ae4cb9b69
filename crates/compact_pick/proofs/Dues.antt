-- What rows and places say of links and entries is what the store says; so the first of a list by them is the first by the store.
use Prim.Native.Nat.{ℕ, zero, suc, ◌-◌, ◌≤◌, ◌<◌}
use mathlib.Core.Path.{◌≡◌, refl, sym, ◌∙◌, ap}
use mathlib.Core.List.{List, [], ◌∷◌, ◌++◌}
use mathlib.Core.Bool.{Bool}
use mathlib.Core.Option.{some, none}
use native.Mathlib.Omega.{arith}
use borrow.Author.Tests.{ltb-true, eqb-false}
use lib.Dec.{ltb, eqb}
use lib.ListN.{length, get_or, take, drop}
use Rattle.ldc.specs.Lists.{first, is_empty}
use Rattle.ldc.specs.Store.{Store, links, level}
use Rattle.ldc.specs.Lent.{Lent}
use Rattle.ldc.specs.Layout.{level_count, threshold_in, length_in, part_in, items_in}
use Rattle.ldc.specs.Tidy.{due, due_in}
use Rattle.ldc.proofs.Basics.Cases.{cases}
use Rattle.ldc.proofs.Basics.ListLaws.{first-same}
use Rattle.book.specs.Place.{the_index}
use Rattle.std.specs.Prelude.{Some, None}
use Rattle.compact_pick.specs.Calm.{CalmBut, looked_at}
use Rattle.compact_pick.specs.Due.{passes_by, Items, Reads, Linked, ToldBy}
use Rattle.compact_pick.specs.declared.due.Wanted.TheVariants.{DueBy, Bare}
use Rattle.std.specs.Prelude as code

-- The first of two lists: of the first, if it has one.
pub first-left : (t : ℕ → Bool) (xs ys : List ℕ) (p : ℕ) → first t xs ≡ some p → first t (xs ++ ys) ≡ some p
first-left t [] ys p = λ e. absurd (let z : ◌≡◌ {A = ℕ} 0 1 = cc in omega arith)
first-left t (x ∷ xs) ys p = cases (t x) (λ q. rw q (λ e. e)) (λ q. rw q (λ e. first-left t xs ys p e))

pub first-right : (t : ℕ → Bool) (xs ys : List ℕ) → first t xs ≡ none → first t (xs ++ ys) ≡ first t ys
first-right t [] ys = λ e. refl
first-right t (x ∷ xs) ys =
    cases (t x)
    (λ q. rw q (λ e. absurd (let z : ◌≡◌ {A = ℕ} 0 1 = cc in omega arith)))
    (λ q. rw q (λ e. first-right t xs ys e))

-- ---- rows and the store

module _ (s : Store) (area : List ℕ) (cards : List (List ℕ)) (b : Linked s cards) where
  pub bare-same : (xs : List ℕ) → first (passes_by area cards Bare) xs ≡ first (λ p. is_empty (links s p)) xs
  unfolding passes_by
  bare-same xs = first-same (passes_by area cards Bare) (λ p. is_empty (links s p)) xs 0 (λ i _. rw (b (get_or xs i 0)))

  due-same : Reads s area → (xs : List ℕ) → first (passes_by area cards (DueBy s.threshold)) xs ≡ first (due s) xs
  unfolding passes_by due
  due-same r xs = first-same (passes_by area cards (DueBy s.threshold)) (due s) xs 0 (λ i _. rw (b (get_or xs i 0), r (get_or xs i 0)))

-- ---- the due table, level by level

pub levels-turn : (n : ℕ) → 1 ≤ n → n < level_count → drop (n - 1) (1 ∷ 2 ∷ 3 ∷ []) ≡ n ∷ drop n (1 ∷ 2 ∷ 3 ∷ [])
levels-turn zero a b = absurd (omega arith)
levels-turn (suc zero) a b = refl
levels-turn (suc (suc zero)) a b = refl
levels-turn (suc (suc (suc zero))) a b = refl
levels-turn (suc (suc (suc (suc n)))) a b = absurd (omega arith)

-- ---- the items of a level that are looked at

-- All of them, or none where the level is known to have no due one.
abbrev pub looked : (places : ℕ) → (lists head : List ℕ) → (on n : ℕ) → List ℕ
looked places lists head on n = take (looked_at head on n) (part_in places lists n)

-- By whether they are looked at.
looked-cases : {P : Type 0} (head : List ℕ) (on n : ℕ) → (looked_at head on n ≡ length_in head n → P)
    → (on < level_count → (on ≡ n → ⊥) → looked_at head on n ≡ 0 → P) → P
unfolding looked_at
looked-cases head on n every nought =
    cases (ltb on level_count)
    (λ q. cases (eqb on n)
    (λ e. every (rw (q, e)))
    (λ e. nought (ltb-true on level_count q) (eqb-false on n e) (rw (q, e))))
    (λ q. every (rw q))

pub looked-few : (head : List ℕ) (on n places : ℕ) → length_in head n ≤ places → looked_at head on n ≤ places
looked-few head on n places h = looked-cases head on n (λ e. rw e h) (λ _ _ e. rw e (omega arith))

pub items-looked : (area : List ℕ) (cards : List (List ℕ)) (lists head : List ℕ) (on n : ℕ) → Items area cards (items_in (length cards) lists head n)
    → Items area cards (looked (length cards) lists head on n)
items-looked area cards lists head on n h =
    looked-cases head on n (λ e. rw e h)
    (λ _ _ e. rw e (record { legible = h.legible; listed = λ i l. absurd (omega arith) }))

module _ (s : Store) (m : Lent) (w : ToldBy s m) (n : ℕ) (k : n < level_count) where
  -- The first due one of a level, by rows and places and by the store.
  level-due : (t : ℕ) → t ≡ threshold_in m.head
      → first (passes_by m.area m.cards (DueBy t)) (items_in (length m.cards) m.lists m.head n) ≡ first (due s) (level s n)
  level-due t e =
      let same : t ≡ s.threshold = e ∙ sym w.booked.threshold in
      rw (same, w.booked.levels n k)
      (due-same s m.area m.cards w.booked.linked w.reads (items_in (length m.cards) m.lists m.head n))

  -- The same by those that are looked at.
  looked-due : (on t : ℕ) → 1 ≤ n → CalmBut on s → t ≡ threshold_in m.head
      → first (passes_by m.area m.cards (DueBy t)) (looked (length m.cards) m.lists m.head on n) ≡ first (due s) (level s n)
  looked-due on t low calm e =
      looked-cases m.head on n (λ q. rw q (level-due t e)) (λ a b q. rw q (sym (calm-at n low k calm a b)))
    where
      calm-at : (i : ℕ) → 1 ≤ i → i < level_count → CalmBut on s → on < level_count → (on ≡ i → ⊥) → first (due s) (level s i) ≡ none
      calm-at zero l i4 c a b = absurd (omega arith)
      calm-at (suc i) l i4 c a b = c a i (omega arith) b

  module _ (on : ℕ) (low : 1 ≤ n) (calm : CalmBut on s) (t : ℕ) (r : code.Option ℕ) (ns : List ℕ) (e : t ≡ threshold_in m.head)
      (f : the_index r ≡ first (passes_by m.area m.cards (DueBy t)) (looked (length m.cards) m.lists m.head on n)) where
    pub due-here : (p : ℕ) → r ≡ Some p → due_in s (n ∷ ns) ≡ some (record { on = n; place = p })
    due-here p h = let g : first (due s) (level s n) ≡ some p = sym (looked-due on t low calm e) ∙ sym f ∙ ap the_index h in rw g

    pub due-turn : r ≡ None → due_in s (n ∷ ns) ≡ due_in s ns
    due-turn h = let g : first (due s) (level s n) ≡ none = sym (looked-due on t low calm e) ∙ sym f ∙ ap the_index h in rw g
