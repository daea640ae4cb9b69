-- A key and its word put among the first n of two arrays: a law for each way out.
use Prim.Native.Nat.{ℕ, suc, ◌+◌, ◌-◌, ◌≤◌, ◌<◌, min}
use mathlib.Core.Path.{◌≡◌, refl, sym, ◌∙◌, ap}
use mathlib.Core.List.{List, ◌∷◌, ◌++◌}
use mathlib.Core.Logic.{◌⊎◌, inl, inr}
use native.Mathlib.Omega.{arith}
use native.Mathlib.Numerals.{add-one}
use borrow.Author.Tests.{ltb-true, ltb-false}
use lib.Dec.{ltb}
use lib.ListN.{length, take, drop, get_or, set}
use lib.Seq.{take-take, take_at, take_all, take-set-lt, length-take-le, get_or-take, set-get_or}
use Rattle.ldc.proofs.Basics.Cases.{cases}
use Rattle.read_gather.specs.Beside.{rank, beside, lift, Inserted}
use Rattle.read_gather.proofs.Ranks.{rank-few, beside-hit, beside-new}
use Rattle.read_gather.proofs.Lifts.{lift-put, kept_new}

module _ (keys : List ℕ) (n key : ℕ) (inside : n ≤ length keys) (j : ℕ) (e : j ≡ rank key (take n keys)) where
  used : length (take n keys) ≡ n
  used = length-take-le n keys inside

  pub slot-few : j ≤ n
  slot-few = omega (arith, rank-few key (take n keys), used)

  -- ---- one array, of anything

  module _ {A : Type 0} (x : A) (xs : List A) (same : length xs ≡ length keys) where
    used' : length (take n xs) ≡ length (take n keys)
    used' = length-take-le n xs (omega arith) ∙ sym used

    hits : j < n → get_or keys j 0 ≡ key → take n (set xs j x) ≡ take (length keys) (beside key x (take n keys) (take n xs))
    hits h k =
        let here : get_or (take n keys) (rank key (take n keys)) 0 ≡ key = rw (sym e) (get_or-take n keys j 0 h ∙ k) in
        let b : beside key x (take n keys) (take n xs) ≡ set (take n xs) j x =
        beside-hit key x (take n keys) (take n xs) used' (omega (arith, used)) here ∙ ap (λ i. set (take n xs) i x) (sym e) in
        let s : take n (set xs j x) ≡ set (take n xs) j x = take-set-lt n xs j x h in
        let l : length (set (take n xs) j x) ≤ length keys = omega (arith, lib.ListN.length-set (take n xs) j x, used', used) in
        s ∙ sym (ap (take (length keys)) b ∙ take_all (length keys) (set (take n xs) j x) l)

    opened : (j < n → get_or keys j 0 ≡ key → ⊥) → beside key x (take n keys) (take n xs) ≡ take j (take n xs) ++ x ∷ drop j (take n xs)
    opened anew =
        let anew' : rank key (take n keys) < length (take n keys) → get_or (take n keys) (rank key (take n keys)) 0 ≡ key → ⊥ =
        λ l g. anew (omega (arith, used)) (sym (get_or-take n keys j 0 (omega (arith, used))) ∙ ap (λ i. get_or (take n keys) i 0) e ∙ g) in
        beside-new key x (take n keys) (take n xs) used' anew'
        ∙ ap (λ i. take i (take n xs) ++ x ∷ drop i (take n xs)) (sym e)

    full : length keys ≤ j → take n xs ≡ take (length keys) (beside key x (take n keys) (take n xs))
    full h =
        let few = slot-few in
        let jn : j ≡ n = omega arith in
        let t : take j (take n xs) ≡ take n xs = ap (λ i. take i (take n xs)) jn ∙ take-take n n xs (omega arith) in
        let l : length (take n xs) ≡ length keys = omega (arith, used', used) in
        let o = opened (λ i g. omega arith) in
        sym
        (ap (take (length keys)) (o ∙ ap (λ (f : List A). f ++ x ∷ drop j (take n xs)) t)
        ∙ take_at (take n xs) (x ∷ drop j (take n xs)) (length keys) l)

    grown : (top : ℕ) (d : A) → (j < n → get_or keys j 0 ≡ key → ⊥) → j < length keys → top ≡ min n (length keys - 1)
        → take (top + 1) (set (lift (top - j) j d xs) j x) ≡ take (length keys) (beside key x (take n keys) (take n xs))
    grown top d anew h t =
        let few = slot-few in
        let le : j ≤ top = omega arith in
        let s : top - j + j ≡ top = omega arith in
        let c : (suc top ≡ length keys) ⊎ ((top ≡ n) × (n < length keys)) =
        cases (ltb n (length keys))
        (λ q. let b = ltb-true n (length keys) q in inr (omega arith, b))
        (λ q. let b = ltb-false n (length keys) q in inl (omega arith)) in
        let p : take (suc (top - j + j)) (set (lift (top - j) j d xs) j x) ≡ take j xs ++ x ∷ take (top - j) (drop j xs) =
        lift-put (top - j) j d x xs (omega arith) in
        ap (λ i. take i (set (lift (top - j) j d xs) j x)) (add-one top ∙ ap suc (sym s))
        ∙ p
        ∙ sym (kept_new (length keys) n j top x xs le (omega arith) c (omega arith))
        ∙ ap (take (length keys)) (sym (opened anew))

  -- ---- both

  module _ (words : List ℕ) (word : ℕ) (same : length words ≡ length keys) where
    pub in_place : j < n → get_or keys j 0 ≡ key → Inserted keys words n key word keys (set words j word) n
    in_place h k = record {
      keyed = ap (take n) (sym (set-get_or keys j 0) ∙ ap (set keys j) k) ∙ hits key keys refl h k;
      worded = hits word words same h k;
      inside = inside;
    }

    pub beyond : length keys ≤ j → Inserted keys words n key word keys words n
    beyond h = record { keyed = full key keys refl h; worded = full word words same h; inside = inside }

    pub between : (top : ℕ) (keys' words' : List ℕ) → (j < n → get_or keys j 0 ≡ key → ⊥) → j < length keys → top ≡ min n (length keys - 1)
        → keys' ≡ lift (top - j) j 0 keys → words' ≡ lift (top - j) j 0 words
        → Inserted keys words n key word (set keys' j key) (set words' j word) (top + 1)
    between top keys' words' anew h t ek ew = record {
      keyed = rw ek (grown key keys refl top 0 anew h t);
      worded = rw ew (grown word words same top 0 anew h t);
      inside = omega arith;
    }
