-- Counting: how often an item stands in lists, and sums over cards, before and after one of them is replaced. Uniqueness is a count of 1.
use Prim.Native.Nat.{ℕ, zero, suc, ◌+◌, ◌≤◌, ◌<◌}
use mathlib.Core.Path.{◌≡◌, refl, sym, ◌∙◌}
use mathlib.Core.List.Memᴰ
use mathlib.Core.List.{List, [], ◌∷◌, ◌++◌, Memᴰ}
use mathlib.Core.Bool.{Bool, true, cond}
use mathlib.Core.Logic.{⊎_elim}
use native.Mathlib.Omega.{arith}
use borrow.Author.Tests.{eqb-true, eqb-false, ltb-true, ltb-false, lt-ltb}
use lib.Dec.{ltb, eqb}
use lib.ListN.{length, get_or, set}
use Rattle.ldc.specs.Lists.{any, how_many, flat}
use Rattle.ldc.proofs.Basics.Cases.{cases, clash}

-- 1 for yes.
abbrev pub one : Bool → ℕ
one b = cond b 1 0

module _ {ℓ} {A : Type ℓ} where
  -- a number for each element, added up
  abbrev pub total : (A → ℕ) → List A → ℕ
  total f [] = 0
  total f (x ∷ xs) = f x + total f xs

  -- one element replaced
  pub total-set : (f : A → ℕ) (xs : List A) (i : ℕ) (y d : A) → i < length xs → total f (set xs i y) + f (get_or xs i d) ≡ total f xs + f y
  total-set f [] i y d h = absurd (omega arith)
  total-set f (x ∷ xs) zero y d h = omega arith
  total-set f (x ∷ xs) (suc i) y d h = omega (arith, total-set f xs i y d (omega arith))

  pub total-cong : (f g : A → ℕ) (xs : List A) → ((x : A) → Memᴰ x xs → f x ≡ g x) → total f xs ≡ total g xs
  total-cong f g [] h = refl
  total-cong f g (x ∷ xs) h = rw (h x (Memᴰ.head refl), total-cong f g xs (λ y m. h y (Memᴰ.tail m)))

  pub total-none : (f : A → ℕ) (xs : List A) → total f xs ≡ 0 → (i : ℕ) (d : A) → f d ≡ 0 → f (get_or xs i d) ≡ 0
  total-none f [] h i d z = z
  total-none f (x ∷ xs) h zero d z = omega arith
  total-none f (x ∷ xs) h (suc i) d z = total-none f xs (omega arith) i d z

  pub total-each : (f : A → ℕ) (xs : List A) (d : A) → ((i : ℕ) → f (get_or xs i d) ≡ 0) → total f xs ≡ 0
  total-each f [] d h = refl
  total-each f (x ∷ xs) d h = omega (arith, h 0, total-each f xs d (λ i. h (suc i)))

  pub how_many-append : (t : A → Bool) (xs ys : List A) → how_many t (xs ++ ys) ≡ how_many t xs + how_many t ys
  how_many-append t [] ys = omega arith
  how_many-append t (x ∷ xs) ys =
      cases (t x)
      (λ q. rw q (omega (arith, how_many-append t xs ys)))
      (λ q. rw q (how_many-append t xs ys))

  -- one element replaced
  pub how_many-set : (t : A → Bool) (xs : List A) (i : ℕ) (y d : A) → i < length xs
      → how_many t (set xs i y) + one (t (get_or xs i d)) ≡ how_many t xs + one (t y)
  how_many-set t [] i y d h = absurd (omega arith)
  how_many-set t (x ∷ xs) zero y d h =
      cases (t x)
      (λ q. cases (t y) (λ r. rw (q, r)) (λ r. rw (q, r) (omega arith)))
      (λ q. cases (t y) (λ r. rw (q, r) (omega arith)) (λ r. rw (q, r)))
  how_many-set t (x ∷ xs) (suc i) y d h =
      let r = how_many-set t xs i y d (omega arith) in
      cases (t x) (λ q. rw q (omega arith)) (λ q. rw q r)

  -- some element passes exactly if they are not none
  pub any-how_many : (t : A → Bool) (xs : List A) → any t xs ≡ ltb 0 (how_many t xs)
  any-how_many t [] = refl
  any-how_many t (x ∷ xs) =
      cases (t x)
      (λ q. rw q (sym (lt-ltb 0 (suc (how_many t xs)) (omega arith))))
      (λ q. rw q (any-how_many t xs))

  -- some number is above 0 exactly if their sum is
  pub any-total : (f : A → ℕ) (xs : List A) → any (λ x. ltb 0 (f x)) xs ≡ ltb 0 (total f xs)
  any-total f [] = refl
  any-total f (x ∷ xs) =
      cases (ltb 0 (f x))
      (λ q. rw q (sym (lt-ltb 0 (f x + total f xs) (omega (arith, ltb-true 0 (f x) q)))))
      (λ q. let z : f x ≡ 0 = omega (arith, ltb-false 0 (f x) q) in
      let e : f x + total f xs ≡ total f xs = omega arith in
      rw (q, e) (any-total f xs))

  pub any-cong : (t u : A → Bool) (xs : List A) → ((x : A) → t x ≡ u x) → any t xs ≡ any u xs
  any-cong t u [] h = refl
  any-cong t u (x ∷ xs) h = rw (h x, any-cong t u xs h)

module _ {ℓ} {A : Type ℓ} where
  -- in lists one after the other
  pub how_many-flat : (t : A → Bool) (xss : List (List A)) → how_many t (flat xss) ≡ total (how_many t) xss
  how_many-flat t [] = refl
  how_many-flat t (xs ∷ xss) = rw (how_many-append t xs (flat xss), how_many-flat t xss)

-- A member is counted, and what is counted is a member.
pub member-counted : (p : ℕ) (xs : List ℕ) → Memᴰ p xs → 1 ≤ how_many (eqb p) xs
member-counted p [] m = absurd (elim m [ ])
member-counted p (x ∷ xs) m =
    cases (eqb p x)
    (λ q. rw q (omega arith))
    (λ q. rw q (⊎_elim (λ e. absurd (eqb-false p x q e)) (λ t. member-counted p xs t) (Memᴰ.cases_cons m)))

pub counted-member : (p : ℕ) (xs : List ℕ) → 1 ≤ how_many (eqb p) xs → Memᴰ p xs
counted-member p [] h = absurd (omega arith)
counted-member p (x ∷ xs) h =
    cases (eqb p x)
    (λ q. Memᴰ.head (eqb-true p x q))
    (λ q. Memᴰ.tail (counted-member p xs (rw q at h)))

pub member-or-not : {P : Type 0} (p : ℕ) (xs : List ℕ) → (Memᴰ p xs → P) → ((Memᴰ p xs → ⊥) → P) → P
member-or-not p xs yes' no' =
    cases (ltb 0 (how_many (eqb p) xs))
    (λ q. yes' (counted-member p xs (ltb-true 0 (how_many (eqb p) xs) q)))
    (λ q. no' (λ m. let z = ltb-false 0 (how_many (eqb p) xs) q in let o = member-counted p xs m in omega arith))

-- The test for a member.
pub any-member : (p : ℕ) (xs : List ℕ) → any (eqb p) xs ≡ true → Memᴰ p xs
any-member p [] h = clash h refl
any-member p (x ∷ xs) h =
    cases (eqb p x)
    (λ q. Memᴰ.head (eqb-true p x q))
    (λ q. Memᴰ.tail (any-member p xs (rw q at h)))

pub member-any : (p : ℕ) (xs : List ℕ) → Memᴰ p xs → any (eqb p) xs ≡ true
member-any p xs m = any-how_many (eqb p) xs ∙ lt-ltb 0 (how_many (eqb p) xs) (member-counted p xs m)
