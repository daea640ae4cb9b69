-- Where a key belongs among rising keys, found from the end; and what is put beside it there.
use Prim.Native.Nat.{ℕ, zero, suc, ◌-◌, ◌≤◌, ◌<◌}
use mathlib.Core.Path.{◌≡◌, refl, sym, ◌∙◌, ap}
use mathlib.Core.List.{List, [], ◌∷◌, ◌++◌}
use native.Mathlib.Omega.{arith}
use borrow.Author.Tests.{leb-true, leb-false, le-leb, lt-leb, lt-ltb, le-ltb, eq-eqb, ne_eqb}
use lib.Dec.{leb, ltb}
use lib.ListN.{length, take, drop, get_or, set}
use lib.Seq.{take-suc, take-take}
use Rattle.ldc.proofs.Basics.Cases.{cases}
use Rattle.read_gather.specs.Beside.{Rises, rank, beside}

-- ---- from the end

pub rises-take : (low n : ℕ) (ks : List ℕ) → Rises low ks → Rises low (take n ks)
rises-take low zero ks h = tt
rises-take low (suc n) [] h = tt
rises-take low (suc n) (k ∷ ks) h = (h.0, rises-take (suc k) n ks h.1)

rises-at : (low i : ℕ) (ks : List ℕ) → Rises low (take (suc i) ks) → i < length ks → low ≤ get_or ks i 0
rises-at low i [] h l = absurd (omega arith)
rises-at low zero (k ∷ ks) h l = h.0
rises-at low (suc i) (k ∷ ks) h l = let r = rises-at (suc k) i ks h.1 (omega arith) in let f = h.0 in omega arith

rank-snoc : (k f : ℕ) (ks : List ℕ) → k ≤ f → rank k (ks ++ (f ∷ [])) ≡ rank k ks
unfolding rank
rank-snoc k f [] h = rw (le-leb k f h)
rank-snoc k f (j ∷ ks) h = cases (leb k j) (λ q. rw q) (λ q. rw q (ap suc (rank-snoc k f ks h)))

rank-last : (k low i : ℕ) (ks : List ℕ) → Rises low (take (suc i) ks) → i < length ks → get_or ks i 0 < k → rank k (take (suc i) ks) ≡ suc i
unfolding rank
rank-last k low i [] h l b = absurd (omega arith)
rank-last k low zero (j ∷ ks) h l b = rw (lt-leb k j b)
rank-last k low (suc i) (j ∷ ks) h l b =
    let r = rises-at (suc j) i ks h.1 (omega arith) in
    rw (lt-leb k j (omega arith)) (ap suc (rank-last k (suc j) i ks h.1 (omega arith) b))

module _ (keys : List ℕ) (n j key : ℕ) (some : 0 < j) (few : j ≤ n) (inside : n ≤ length keys) where
  -- A key that is not below ours: it belongs before that one.
  pub slot_turn : key ≤ get_or keys (j - 1) 0 → rank key (take j keys) ≡ rank key (take (j - 1) keys)
  slot_turn h =
      let e : j ≡ suc (j - 1) = omega arith in
      let t : take (suc (j - 1)) keys ≡ take (j - 1) keys ++ (get_or keys (j - 1) 0 ∷ []) = take-suc keys (j - 1) 0 (omega arith) in
      ap (λ i. rank key (take i keys)) e ∙ ap (rank key) t ∙ rank-snoc key (get_or keys (j - 1) 0) (take (j - 1) keys) h

  -- A key below ours: all before it are.
  pub slot-stop : Rises 0 (take n keys) → get_or keys (j - 1) 0 < key → rank key (take j keys) ≡ j
  slot-stop up h =
      let e : j ≡ suc (j - 1) = omega arith in
      let u : Rises 0 (take (suc (j - 1)) keys) =
      rw (sym (take-take (suc (j - 1)) n keys (omega arith))) (rises-take 0 (suc (j - 1)) (take n keys) up) in
      ap (λ i. rank key (take i keys)) e ∙ rank-last key 0 (j - 1) keys u (omega arith) h ∙ sym e

pub slot-end : (keys : List ℕ) (j key : ℕ) → j ≤ 0 → rank key (take j keys) ≡ j
unfolding rank
slot-end keys j key h = let e : j ≡ 0 = omega arith in rw e

-- ---- what is put there

pub rank-few : (k : ℕ) (ks : List ℕ) → rank k ks ≤ length ks
unfolding rank
rank-few k [] = omega arith
rank-few k (j ∷ ks) = let r = rank-few k ks in cases (leb k j) (λ q. rw q (omega arith)) (λ q. rw q (omega arith))

module _ {ℓ} {A : Type ℓ} where
  pub beside-hit : (k : ℕ) (x : A) (ks : List ℕ) (xs : List A) → length xs ≡ length ks → rank k ks < length ks → get_or ks (rank k ks) 0 ≡ k
      → beside k x ks xs ≡ set xs (rank k ks) x
  unfolding rank beside
  beside-hit k x [] xs l h e = absurd (omega arith)
  beside-hit k x (j ∷ ks) [] l h e = absurd (omega arith)
  beside-hit k x (j ∷ ks) (y ∷ ys) l h e =
      cases (leb k j)
      (λ q. let s : j ≡ k = rw q at e in
      rw (q, le-ltb k j (omega arith), eq-eqb k j (sym s)))
      (λ q. let b = leb-false k j q in
      rw (q, le-ltb k j (omega arith), ne_eqb k j (λ s. omega arith))
      (ap (λ (zs : List A). y ∷ zs) (beside-hit k x ks ys (omega arith) (let t = rw q at h in omega arith) (rw q at e))))

  pub beside-new : (k : ℕ) (x : A) (ks : List ℕ) (xs : List A) → length xs ≡ length ks → (rank k ks < length ks → get_or ks (rank k ks) 0 ≡ k → ⊥)
      → beside k x ks xs ≡ take (rank k ks) xs ++ x ∷ drop (rank k ks) xs
  unfolding rank beside
  beside-new k x [] [] l h = refl
  beside-new k x [] (y ∷ ys) l h = absurd (omega arith)
  beside-new k x (j ∷ ks) [] l h = absurd (omega arith)
  beside-new k x (j ∷ ks) (y ∷ ys) l h =
      cases (leb k j)
      (λ q. let d : j ≡ k → ⊥ = λ s. (rw q at h) (omega arith) s in
      let b = leb-true k j q in
      rw (
        q,
        lt-ltb k j (cases (ltb k j) (λ t. borrow.Author.Tests.ltb-true k j t)
            (λ t. absurd (d (omega (arith, borrow.Author.Tests.ltb-false k j t))))),
      ))
      (λ q. let b = leb-false k j q in
      let h' = rw q at h in
      rw (q, le-ltb k j (omega arith), ne_eqb k j (λ s. omega arith))
      (ap (λ (zs : List A). y ∷ zs) (beside-new k x ks ys (omega arith) (λ i e. h' (omega arith) e))))
