-- Laws that connect the walk with the definition: runs of numbers and rows, tests swapped, places and spans of a store, and lists.
use Prim.Native.Nat.{ℕ, zero, suc, ◌+◌, ◌≤◌, ◌<◌}
use mathlib.Core.Path.{◌≡◌, refl, ◌∙◌}
use mathlib.Core.Bool.{Bool, true, false, ◌&&◌}
use mathlib.Core.List.{List, [], ◌∷◌, Memᴰ}
use native.Mathlib.Omega.{arith}
use native.Mathlib.Nat.{zero-add}
use lib.ListN.{length, get_or, length-map}
use Rattle.ldc.specs.Lists.{all, all_from}
use Rattle.ldc.specs.Store.{Link, size, card, links, bytes_at, table, slice, span_start, span_end}
use Rattle.ldc.specs.Rules.{link_good, spans_rise}
use Rattle.ldc.specs.Lent.{Lent, places_in, level_of, store_of}
use Rattle.ldc.proofs.Basics.ListLaws.{all-at, all_of}
use Rattle.ldc.specs.Layout.{card_of, items_in}
use Rattle.book.specs.Rows.{shown_by}
use Rattle.check_walk.proofs.ApartLaws.{same_test}
use Rattle.check_walk.proofs.LinkLaws.{all_append}
use Rattle.check_places.specs.Lists.{listed}

-- ---- runs of numbers

pub from-split : (f g h : ℕ → Bool) (n from : ℕ) → ((i : ℕ) → f i ≡ (g i && h i)) → all_from n from f ≡ (all_from n from g && all_from n from h)
from-split f g h zero i e = refl
from-split f g h (suc n) i e = rw (e i, from-split f g h n (suc i) e) (regroup (g i) (h i) (all_from n (suc i) g) (all_from n (suc i) h))
  where
    regroup : (a b c d : Bool) → ((a && b) && (c && d)) ≡ ((a && c) && (b && d))
    regroup true true c d = refl
    regroup true false true d = refl
    regroup true false false d = refl
    regroup false b c d = refl

pub from-same : (f g : ℕ → Bool) (n from : ℕ) → ((i : ℕ) → from ≤ i → i < from + n → f i ≡ g i) → all_from n from f ≡ all_from n from g
from-same f g zero i e = refl
from-same f g (suc n) i e =
    rw (e i (omega arith) (omega arith), from-same f g n (suc i) (λ j lo hi. e j (omega arith) (omega arith)))

pub below-same : (f g : ℕ → Bool) (n : ℕ) → ((i : ℕ) → i < n → f i ≡ g i) → all_from n 0 f ≡ all_from n 0 g
below-same f g n e = from-same f g n 0 (λ i lo hi. e i (omega arith))

module _ {ℓ} {A : Type ℓ} (test : A → Bool) (d : A) where
  rows-from : (xs : List A) (from : ℕ) (f : ℕ → Bool) → ((i : ℕ) → f (from + i) ≡ test (get_or xs i d)) → all_from (length xs) from f ≡ all test xs
  rows-from [] from f e = refl
  rows-from (x ∷ xs) from f e =
      let here : f from ≡ test x = let z : from + 0 ≡ from = omega arith in rw z at (e 0) in
      rw (here, rows-from xs (suc from) f (λ i. let s : suc from + i ≡ from + suc i = omega arith in rw s (e (suc i))))

  -- A test of every row, by its number.
  pub rows_all : (xs : List A) → all_from (length xs) 0 (λ i. test (get_or xs i d)) ≡ all test xs
  rows_all xs = rows-from xs 0 (λ i. test (get_or xs i d)) (λ i. rw (zero-add i))

pub all_same : {A : Type 0} (f g : A → Bool) (xs : List A) → ((x : A) → Memᴰ x xs → f x ≡ g x) → all f xs ≡ all g xs
all_same f g [] e = refl
all_same f g (x ∷ xs) e = rw (e x (Memᴰ.head refl), all_same f g xs (λ y m. e y (Memᴰ.tail m)))

-- Every x against every y, either way round.
pub all-swap : {A B : Type 0} (f : A → B → Bool) (xs : List A) (ys : List B)
    → all (λ x. all (f x) ys) xs ≡ all (λ y. all (λ x. f x y) xs) ys
all-swap f xs ys =
    same_test _ _
    (λ h. all_of (λ y. all (λ x. f x y) xs) ys (λ y n. all_of (λ x. f x y) xs (λ x m. all-at (f x) ys (all-at (λ z. all (f z) ys) xs h m) n)))
    (λ h. all_of (λ x. all (f x) ys) xs (λ x m. all_of (f x) ys (λ y n. all-at (λ z. f z y) xs (all-at (λ y. all (λ z. f z y) xs) ys h n) m)))

-- ---- the store that lent memory shows, and what area and cards show of it

module _ (m : Lent) where
  pub card-seen : (p : ℕ) → card (store_of m) p ≡ card (shown_by m.area m.cards) p
  unfolding card store_of
  card-seen p = refl

  pub bytes-seen : (p : ℕ) → bytes_at (store_of m) p ≡ bytes_at (shown_by m.area m.cards) p
  unfolding bytes_at store_of
  bytes-seen p = refl

  pub links-seen : (p : ℕ) → links (store_of m) p ≡ links (shown_by m.area m.cards) p
  unfolding links
  links-seen p = rw (card-seen p)

  table-seen : (p : ℕ) → table (store_of m) p ≡ table (shown_by m.area m.cards) p
  unfolding table
  table-seen p = rw (bytes-seen p)

  pub good-seen : (l : Link) → link_good (store_of m) l ≡ link_good (shown_by m.area m.cards) l
  unfolding link_good slice
  good-seen l = rw (card-seen l.place, table-seen l.place)

  start_seen : (p : ℕ) → span_start (store_of m) p ≡ span_start (shown_by m.area m.cards) p
  unfolding span_start
  start_seen p = rw (table-seen p, links-seen p)

  end_seen : (p : ℕ) → span_end (store_of m) p ≡ span_end (shown_by m.area m.cards) p
  unfolding span_end
  end_seen p = rw (table-seen p, links-seen p)

  pub rise-seen : (ps : List ℕ) → spans_rise (store_of m) ps ≡ spans_rise (shown_by m.area m.cards) ps
  rise-seen [] = refl
  rise-seen (p ∷ []) = refl
  rise-seen (p ∷ q ∷ ps) = rw (end_seen p, start_seen q, rise-seen (q ∷ ps))

  pub size-seen : size (store_of m) ≡ length m.cards
  unfolding size store_of
  size-seen = length-map m.cards card_of

  -- ---- lists

  -- A list in its part.
  pub level-items : places_in m.area ≡ length m.cards → (n : ℕ) → level_of m n ≡ items_in (length m.cards) m.lists m.head n
  unfolding level_of
  level-items e n = rw e

-- A test of all that is listed, level by level.
pub all_listed : (test : ℕ → Bool) (k from P : ℕ) (lists head : List ℕ)
    → all test (listed k from P lists head) ≡ all_from k from (λ n. all test (items_in P lists head n))
unfolding listed
all_listed test zero from P lists head = refl
all_listed test (suc k) from P lists head =
    all_append test (items_in P lists head from) (listed k (suc from) P lists head) ∙ rw (all_listed test k (suc from) P lists head)
