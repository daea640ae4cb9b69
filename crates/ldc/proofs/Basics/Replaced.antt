-- A list that has a member is what stands before it, the member, and what stands behind; replacing acts just there.
use Prim.Native.Nat.{ℕ, ◌+◌}
use mathlib.Core.Path.{◌≡◌, sym, ap}
use mathlib.Core.List.Memᴰ
use mathlib.Core.List.{List, [], ◌∷◌, ◌++◌, reverse, reverse_aux, Memᴰ}
use mathlib.Core.Logic.{⊎_elim}
use native.Mathlib.Omega.{arith}
use borrow.Author.Tests.{eqb-true, eqb-false}
use lib.Dec.{eqb}
use Rattle.ldc.specs.Lists.{how_many}
use Rattle.ldc.specs.Steps.{replaced}
use Rattle.ldc.proofs.Basics.Cases.{cases}
use Rattle.ldc.proofs.Basics.Counts.{how_many-append}

pub record Split (p : ℕ) (ps : List ℕ) : Type 0 where
  pub front : List ℕ
  pub back : List ℕ
  pub whole : ps ≡ front ++ (p ∷ back)
  pub other : (qs : List ℕ) → replaced p qs ps ≡ front ++ (qs ++ back)

pub split : (p : ℕ) (ps : List ℕ) → Memᴰ p ps → Split p ps
split p [] m = absurd (elim m [ ])
split p (x ∷ xs) m =
    cases (eqb x p)
    (λ q. record {
      front = [];
      back = xs;
      whole = ap (λ y. y ∷ xs) (eqb-true x p q);
      other = λ qs. rw q;
    })
    (λ q. let r = split p xs (⊎_elim (λ e. absurd (eqb-false x p q (sym e))) (λ t. t) (Memᴰ.cases_cons m)) in
    record {
      front = x ∷ r.front;
      back = r.back;
      whole = ap (λ ys. x ∷ ys) r.whole;
      other = λ qs. rw q (ap (λ ys. x ∷ ys) (r.other qs));
    })

-- how often something stands in a list with a member replaced
pub replaced-counted : (q p : ℕ) (qs ps : List ℕ) → Memᴰ p ps
    → how_many (eqb q) (replaced p qs ps) + how_many (eqb q) (p ∷ []) ≡ how_many (eqb q) ps + how_many (eqb q) qs
replaced-counted q p qs ps m =
    let r = split p ps m in
    let a = how_many-append (eqb q) r.front (qs ++ r.back) in
    let b = how_many-append (eqb q) qs r.back in
    let c = how_many-append (eqb q) r.front (p ∷ r.back) in
    let d = how_many-append (eqb q) (p ∷ []) r.back in
    rw (r.other qs, ap (how_many (eqb q)) r.whole) (omega arith)

-- ---- members of lists turned round, mapped and joined

module _ {A : Type 0} where
  pub member-reverse_aux : (x : A) (xs ys : List A) → Memᴰ x (reverse_aux xs ys) → Memᴰ x (xs ++ ys)
  member-reverse_aux x [] ys m = m
  member-reverse_aux x (z ∷ zs) ys m =
      ⊎_elim
      (λ l. Memᴰ.tail (Memᴰ.append_left ys l))
      (λ r. ⊎_elim (λ e. Memᴰ.head e) (λ t. Memᴰ.tail (Memᴰ.append_right zs t)) (Memᴰ.cases_cons r))
      (Memᴰ.append_cases zs (member-reverse_aux x zs (z ∷ ys) m))

  pub member-reverse : (x : A) (xs : List A) → Memᴰ x (reverse xs) → Memᴰ x xs
  member-reverse x xs m =
      ⊎_elim (λ l. l) (λ r. absurd (elim r [ ])) (Memᴰ.append_cases xs (member-reverse_aux x xs [] m))
