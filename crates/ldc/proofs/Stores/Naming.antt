-- Which places are named by links: from a link to its name and back, and when two stores name alike.
use Prim.Native.Nat.{ℕ, zero, suc}
use mathlib.Core.Path.{◌≡◌, refl}
use mathlib.Core.List.Memᴰ
use mathlib.Core.List.{List, [], ◌∷◌, Memᴰ}
use mathlib.Core.Bool.{Bool, true, false}
use mathlib.Core.Logic.{⊎_elim}
use borrow.Author.Tests.{eqb-true, eq-eqb}
use lib.Dec.{eqb}
use lib.ListN.{get_or}
use Rattle.ldc.specs.Lists.{any}
use Rattle.ldc.specs.Store.{Link, free, links_of, Store, card, links}
use Rattle.ldc.specs.Rules.{named}
use Rattle.ldc.proofs.Basics.Cases.{cases, clash, either_left, either-right}

module _ {A : Type 0} (t : A → Bool) where
  pub any-intro : (xs : List A) (x : A) → Memᴰ x xs → t x ≡ true → any t xs ≡ true
  any-intro [] x m h = absurd (elim m [ ])
  any-intro (y ∷ ys) x m h =
      ⊎_elim (λ e. either_left (t y) (any t ys) (rw e at h)) (λ r. either-right (t y) (any t ys) (any-intro ys x r h)) (Memᴰ.cases_cons m)

  pub any-elim : (xs : List A) → any t xs ≡ true → (x : A) × (Memᴰ x xs × (t x ≡ true))
  any-elim [] h = clash h refl
  any-elim (y ∷ ys) h =
      cases (t y)
      (λ q. (y, (Memᴰ.head refl, q)))
      (λ q. let r = any-elim ys (rw q at h) in (r.0, (Memᴰ.tail r.1.0, r.1.1)))

  pub any-get_or : (xs : List A) (d : A) (i : ℕ) → t d ≡ false → t (get_or xs i d) ≡ true → any t xs ≡ true
  any-get_or [] d i z h = clash h z
  any-get_or (x ∷ xs) d zero z h = rw h
  any-get_or (x ∷ xs) d (suc i) z h = either-right (t x) (any t xs) (any-get_or xs d i z h)

  pub any-index : (xs : List A) (d : A) → any t xs ≡ true → (i : ℕ) × (t (get_or xs i d) ≡ true)
  any-index [] d h = clash h refl
  any-index (x ∷ xs) d h =
      cases (t x)
      (λ q. (0, q))
      (λ q. let r = any-index xs d (rw q at h) in (suc r.0, r.1))

module _ (s : Store) (f : ℕ) where
  -- a link names its place
  pub named-intro : (q : ℕ) (l : Link) → Memᴰ l (links s q) → l.place ≡ f → named s f ≡ true
  unfolding named links card
  named-intro q l m e =
      any-get_or (λ c. any (λ x. eqb x.place f) (links_of c)) s.cards free q refl
      (any-intro (λ x. eqb x.place f) (links_of (get_or s.cards q free)) l m (eq-eqb l.place f e))

  -- a place that is named is named by a link
  pub named-elim : named s f ≡ true → (q : ℕ) × ((l : Link) × (Memᴰ l (links s q) × (l.place ≡ f)))
  unfolding named links card
  named-elim h =
      let r = any-index (λ c. any (λ x. eqb x.place f) (links_of c)) s.cards free h in
      let w = any-elim (λ x. eqb x.place f) (links_of (get_or s.cards r.0 free)) r.1 in
      (r.0, (w.0, (w.1.0, eqb-true w.0.place f w.1.1)))

-- Two tests that follow from each other agree.
pub agree : (a b : Bool) → (a ≡ true → b ≡ true) → (b ≡ true → a ≡ true) → a ≡ b
agree true true f g = refl
agree true false f g = clash (f refl) refl
agree false true f g = clash (g refl) refl
agree false false f g = refl

-- Stores with the same links name the same places.
pub named-same : (s s' : Store) (f : ℕ) → ((q : ℕ) → links s' q ≡ links s q) → named s' f ≡ named s f
named-same s s' f h =
    agree (named s' f) (named s f)
    (λ n. let r = named-elim s' f n in named-intro s f r.0 r.1.0 (rw (h r.0) at r.1.1.0) r.1.1.1)
    (λ n. let r = named-elim s f n in named-intro s' f r.0 r.1.0 (rw (← h r.0) at r.1.1.0) r.1.1.1)
