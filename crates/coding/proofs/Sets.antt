-- Laws of `sets`, a run of stores into a list: what is read at the run, before it and behind it; two runs; runs in a part of a list.
-- By induction on the run, or by `sets-eq`, which cuts the list at the run's ends.
use Prim.Native.Nat.{ℕ, zero, suc, ◌+◌, ◌<◌, ◌≤◌}
use mathlib.Core.Path.{◌≡◌, refl, sym, ◌∙◌, ap}
use mathlib.Core.List.{List, [], ◌∷◌, ◌++◌, append-nil, append_assoc}
use native.Mathlib.Omega.{arith}
use native.Mathlib.Nat.{suc-add, add-zero, zero-add}
use lib.ListN.{length, get_or, set, take, drop, length-set, length-append, length-drop, take-append-drop}
use lib.Seq.{sets, length-sets, length-take-le, take-nil, take_at, take-append_seam, take-set-le, drop_at, drop-drop, drop-length, sets-eq}
use lib.Seq.{drop-append-add, drop-append_seam, drop-set-lt, get_or-set_same, get_or-set_other, set_comm, set-set, set-append_left}

module _ {ℓ} {A : Type ℓ} where
  -- What stands before a run is not changed by it.
  pub get_or-sets-below : (l : List A) (i : ℕ) (vs : List A) (k : ℕ) (d : A) → k < i → get_or (sets l i vs) k d ≡ get_or l k d
  get_or-sets-below l i [] k d h = refl
  get_or-sets-below l i (a ∷ vs) k d h =
      get_or-sets-below (set l i a) (suc i) vs k d (omega arith) ∙ get_or-set_other l i k a d (omega arith)

  -- What stands behind a run is not changed by it.
  pub get_or-sets-above : (l : List A) (i : ℕ) (vs : List A) (k : ℕ) (d : A) → i + length vs ≤ k → get_or (sets l i vs) k d ≡ get_or l k d
  get_or-sets-above l i [] k d h = refl
  get_or-sets-above l i (a ∷ vs) k d h =
      get_or-sets-above (set l i a) (suc i) vs k d (omega arith) ∙ get_or-set_other l i k a d (omega arith)

  -- Within a run stands what was stored.
  pub get_or-sets-in : (l : List A) (i : ℕ) (vs : List A) (k : ℕ) (d : A) → i + length vs ≤ length l → k < length vs
      → get_or (sets l i vs) (i + k) d ≡ get_or vs k d
  get_or-sets-in l i [] k d h hk = absurd (omega arith)
  get_or-sets-in l i (a ∷ vs) zero d h hk =
      rw (add-zero i) (get_or-sets-below (set l i a) (suc i) vs i d (omega arith) ∙ get_or-set_same l i a d (omega arith))
  get_or-sets-in l i (a ∷ vs) (suc k) d h hk =
      let e : i + suc k ≡ suc i + k = omega arith in
      rw e (get_or-sets-in (set l i a) (suc i) vs k d (omega (arith, length-set l i a)) (omega arith))

  -- A run behind another is one run.
  pub sets-append : (l : List A) (i : ℕ) (us vs : List A) → sets l i (us ++ vs) ≡ sets (sets l i us) (i + length us) vs
  sets-append l i [] vs = rw (add-zero i)
  sets-append l i (a ∷ us) vs =
      let e : i + suc (length us) ≡ suc i + length us = omega arith in
      rw e (sets-append (set l i a) (suc i) us vs)

  -- A run as long as the list is all of it.
  pub sets-all : (l vs : List A) → length vs ≡ length l → sets l 0 vs ≡ vs
  sets-all l vs h =
      sets-eq vs l 0 (omega arith)
      ∙ rw (zero-add, h, drop-length l, append-nil vs)

  -- A run in the middle of a list takes the place of as many elements.
  pub sets-mid : (p us r vs : List A) (i : ℕ) → length p ≡ i → length us ≡ length vs → sets (p ++ (us ++ r)) i vs ≡ p ++ (vs ++ r)
  sets-mid p us r vs i hp hu =
      let fits : i + length vs ≤ length (p ++ (us ++ r)) =
      omega (arith, length-append p (us ++ r), length-append us r) in
      let e : i + length vs ≡ length p + length us = omega arith in
      let behind : drop (length p + length us) (p ++ (us ++ r)) ≡ r =
      drop-append-add p (us ++ r) (length us) ∙ drop-append_seam us r in
      sets-eq vs (p ++ (us ++ r)) i fits
      ∙ rw (take_at p (us ++ r) i hp, e, behind) (append_assoc p vs r)

  -- A run in the front of two lists, and in the second.
  pub sets-left : (xs ys : List A) (i : ℕ) (vs : List A) → i + length vs ≤ length xs → sets (xs ++ ys) i vs ≡ sets xs i vs ++ ys
  sets-left xs ys i [] h = refl
  sets-left xs ys i (v ∷ vs) h =
      rw (set-append_left xs ys i v (omega arith))
      (sets-left (set xs i v) ys (suc i) vs (omega (arith, length-set xs i v)))

  pub set-right : (xs ys : List A) (i : ℕ) (v : A) → set (xs ++ ys) (length xs + i) v ≡ xs ++ set ys i v
  set-right [] ys i v = rw (zero-add i)
  set-right (x ∷ xs) ys i v = rw (suc-add (length xs) i, set-right xs ys i v)

  pub sets-right : (xs ys : List A) (i : ℕ) (vs : List A) → sets (xs ++ ys) (length xs + i) vs ≡ xs ++ sets ys i vs
  sets-right xs ys i [] = refl
  sets-right xs ys i (v ∷ vs) =
      let e : suc (length xs + i) ≡ length xs + suc i = omega arith in
      rw (e, set-right xs ys i v) (sets-right xs (set ys i v) (suc i) vs)

  -- A part within a list has the length it was asked for.
  pub length_part : (l : List A) (a n : ℕ) → a + n ≤ length l → length (take n (drop a l)) ≡ n
  length_part l a n h = length-take-le n (drop a l) (omega (arith, length-drop a l))

  -- A part that was lent and has come back is a run.
  pub sets-back : (l : List A) (a n : ℕ) (vs : List A) → a + n ≤ length l → length vs ≡ n
      → take a l ++ (vs ++ drop n (drop a l)) ≡ sets l a vs
  sets-back l a n vs h e =
      let fits : a + length vs ≤ length l = omega arith in
      let behind : drop n (drop a l) ≡ drop (a + length vs) l = drop-drop n a l ∙ ap (λ k. drop (a + k) l) (sym e) in
      sym (sets-eq vs l a fits ∙ append_assoc (take a l) vs (drop (a + length vs) l) ∙ rw behind)

  -- A run within a part that came back is a run of the whole.
  pub sets-part : (l : List A) (a n k : ℕ) (vs : List A) → a + n ≤ length l → k + length vs ≤ n
      → sets l a (sets (take n (drop a l)) k vs) ≡ sets l (a + k) vs
  sets-part l a n k vs h hk =
      let part : length (take n (drop a l)) ≡ n = length_part l a n h in
      let ha : length (take a l) ≡ a = length-take-le a l (omega arith) in
      let within : sets (drop a l) k vs ≡ sets (take n (drop a l)) k vs ++ drop n (drop a l) =
      ap (λ x. sets x k vs) (sym (take-append-drop n (drop a l)))
      ∙ sets-left (take n (drop a l)) (drop n (drop a l)) k vs (omega arith) in
      let whole : sets l (a + k) vs ≡ take a l ++ sets (drop a l) k vs =
      ap (λ x. sets x (a + k) vs) (sym (take-append-drop a l))
      ∙ ap (λ j. sets (take a l ++ drop a l) (j + k) vs) (sym ha)
      ∙ sets-right (take a l) (drop a l) k vs in
      sym (sets-back l a n (sets (take n (drop a l)) k vs) h (length-sets (take n (drop a l)) k vs ∙ part))
      ∙ sym (whole ∙ ap (λ x. take a l ++ x) within)

  -- The part that a run wrote; parts before it and behind it stay.
  pub part_same : (l : List A) (i : ℕ) (vs : List A) → i + length vs ≤ length l → take (length vs) (drop i (sets l i vs)) ≡ vs
  part_same l i vs h =
      let front : length (take i l) ≡ i = length-take-le i l (omega arith) in
      let e : sets l i vs ≡ take i l ++ (vs ++ drop (i + length vs) l) =
      sets-eq vs l i h ∙ append_assoc (take i l) vs (drop (i + length vs) l) in
      rw (e, drop_at (take i l) (vs ++ drop (i + length vs) l) i front) (take-append_seam vs (drop (i + length vs) l))

  pub drop-behind : (l : List A) (i : ℕ) (vs : List A) (a : ℕ) → i + length vs ≤ a → drop a (sets l i vs) ≡ drop a l
  drop-behind l i [] a h = refl
  drop-behind l i (v ∷ vs) a h =
      drop-behind (set l i v) (suc i) vs a (omega arith) ∙ drop-set-lt a l i v (omega arith)

  pub take-before : (l : List A) (i : ℕ) (vs : List A) (a : ℕ) → a ≤ i → take a (sets l i vs) ≡ take a l
  take-before l i [] a h = refl
  take-before l i (v ∷ vs) a h =
      take-before (set l i v) (suc i) vs a (omega arith) ∙ take-set-le a l i v h

  part-take : (l : List A) (a n : ℕ) → take n (drop a l) ≡ drop a (take (a + n) l)
  part-take l zero n = rw (zero-add n)
  part-take [] (suc a) n = rw (suc-add a n) (take-nil n)
  part-take (x ∷ l) (suc a) n = rw (suc-add a n) (part-take l a n)

  pub part-behind : (l : List A) (i : ℕ) (vs : List A) (a n : ℕ) → i + length vs ≤ a → take n (drop a (sets l i vs)) ≡ take n (drop a l)
  part-behind l i vs a n h = rw (drop-behind l i vs a h)

  pub part-before : (l : List A) (i : ℕ) (vs : List A) (a n : ℕ) → a + n ≤ i → take n (drop a (sets l i vs)) ≡ take n (drop a l)
  part-before l i vs a n h =
      part-take (sets l i vs) a n ∙ ap (drop a) (take-before l i vs (a + n) h) ∙ sym (part-take l a n)

  -- Runs apart may change places, and of two at the same place the later stays.
  set-outside : (l : List A) (j : ℕ) (v : A) (i : ℕ) (us : List A) → ((k : ℕ) → k < length us → i + k ≡ j → ⊥)
      → set (sets l i us) j v ≡ sets (set l j v) i us
  set-outside l j v i [] h = refl
  set-outside l j v i (u ∷ us) h =
      set-outside (set l i u) j v (suc i) us (λ k hk e. h (suc k) (omega arith) (omega arith))
      ∙ ap (λ x. sets x (suc i) us) (set_comm l i j u v (λ e. h 0 (omega arith) (omega arith)))

  pub sets-comm : (l : List A) (i : ℕ) (us : List A) (j : ℕ) (vs : List A) → i + length us ≤ j
      → sets (sets l i us) j vs ≡ sets (sets l j vs) i us
  sets-comm l i us j [] h = refl
  sets-comm l i us j (v ∷ vs) h =
      ap (λ x. sets x (suc j) vs) (set-outside l j v i us (λ k hk e. omega arith)) ∙ sets-comm (set l j v) i us (suc j) vs (omega arith)

  pub sets-twice : (l : List A) (i : ℕ) (us vs : List A) → length us ≡ length vs → sets (sets l i us) i vs ≡ sets l i vs
  sets-twice l i [] [] h = refl
  sets-twice l i [] (v ∷ vs) h = absurd (omega arith)
  sets-twice l i (u ∷ us) [] h = absurd (omega arith)
  sets-twice l i (u ∷ us) (v ∷ vs) h =
      let first : set (sets (set l i u) (suc i) us) i v ≡ sets (set l i v) (suc i) us =
      set-outside (set l i u) i v (suc i) us (λ k hk e. omega arith) ∙ ap (λ x. sets x (suc i) us) (set-set l i u v) in
      ap (λ x. sets x (suc i) vs) first ∙ sets-twice (set l i v) (suc i) us vs (omega arith)
