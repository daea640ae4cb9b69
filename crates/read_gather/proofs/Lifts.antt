-- Elements that go up by one, and one put where they have made room.
use Prim.Native.Nat.{ℕ, zero, suc, ◌+◌, ◌-◌, ◌≤◌, ◌<◌}
use mathlib.Core.Path.{◌≡◌, refl, sym, ◌∙◌, ap}
use mathlib.Core.Logic.{◌⊎◌, inl, inr, ⊎_elim}
use mathlib.Core.List.{List, [], ◌∷◌, ◌++◌, append_assoc}
use native.Mathlib.Omega.{arith}
use native.Mathlib.Nat.{add-zero, add-suc}
use native.Mathlib.Numerals.{add-one}
use lib.ListN.{length, take, drop, get_or, set, length-set, length-take}
use lib.Seq.{paste, take-suc, drop-cons, take_all, take-take, take_at, take-set-le, drop-set-lt, get_or-set_same, length-take-le}
use Rattle.read_gather.specs.Beside.{lift}

module _ {ℓ} {A : Type ℓ} where
  -- All from the first on.
  lift-first : (k : ℕ) (d y : A) (ys : List A) → k ≤ length ys → lift k 0 d (y ∷ ys) ≡ y ∷ (take k (y ∷ ys) ++ drop k ys)
  unfolding lift
  lift-first zero d y ys h = refl
  lift-first (suc k) d y ys h =
      let v : A = get_or (y ∷ ys) k d in
      let zs : List A = set ys k v in
      let len : k ≤ length zs = rw (length-set ys k v) (omega arith) in
      let ih : lift k 0 d (y ∷ zs) ≡ y ∷ (take k (y ∷ zs) ++ drop k zs) = lift-first k d y zs len in
      let front : take k (y ∷ zs) ≡ take k (y ∷ ys) = take-set-le k (y ∷ ys) (suc k) v (omega arith) in
      let tail : drop k zs ≡ v ∷ drop (suc k) ys =
      drop-cons zs k d (rw (length-set ys k v) (omega arith))
      ∙ rw (get_or-set_same ys k v d (omega arith), drop-set-lt (suc k) ys k v (omega arith)) in
      let grown : take (suc k) (y ∷ ys) ≡ take k (y ∷ ys) ++ (v ∷ []) = take-suc (y ∷ ys) k d (omega arith) in
      let joined : take k (y ∷ zs) ++ drop k zs ≡ take (suc k) (y ∷ ys) ++ drop (suc k) ys =
      ap (λ (l : List A). l ++ drop k zs) front
      ∙ ap (λ (l : List A). take k (y ∷ ys) ++ l) tail
      ∙ sym (append_assoc (take k (y ∷ ys)) (v ∷ []) (drop (suc k) ys))
      ∙ ap (λ (l : List A). l ++ drop (suc k) ys) (sym grown) in
      rw (add-zero k) (ih ∙ ap (λ (l : List A). y ∷ l) joined)

  lift-behind : (k j : ℕ) (d y : A) (ys : List A) → lift k (suc j) d (y ∷ ys) ≡ y ∷ lift k j d ys
  unfolding lift
  lift-behind zero j d y ys = refl
  lift-behind (suc k) j d y ys = rw (add-suc k j) (lift-behind k j d y (set ys (suc (k + j)) (get_or ys (k + j) d)))

  -- The same as a copy one place up.
  lift-copy : (k j : ℕ) (d : A) (xs : List A) → k + j < length xs → take (suc j) xs ++ take k (drop j xs) ++ drop (suc (j + k)) xs ≡ lift k j d xs
  lift-copy k j d [] h = absurd (omega arith)
  lift-copy k zero d (y ∷ ys) h =
      let e : zero + k ≡ k = omega arith in
      ap (λ i. take 1 (y ∷ ys) ++ take k (y ∷ ys) ++ drop (suc i) (y ∷ ys)) e ∙ sym (lift-first k d y ys (omega arith))
  lift-copy k (suc j) d (y ∷ ys) h =
      let e : suc j + k ≡ suc (j + k) = omega arith in
      ap (λ i. take (suc (suc j)) (y ∷ ys) ++ take k (drop j ys) ++ drop i ys) e
      ∙ ap (λ (l : List A). y ∷ l) (lift-copy k j d ys (omega arith))
      ∙ sym (lift-behind k j d y ys)

  pub lift_copied : (j top : ℕ) (d : A) (xs : List A) → j ≤ top → top < length xs → paste xs (j + 1) (drop j xs) (top - j) ≡ lift (top - j) j d xs
  lift_copied j top d xs h l =
      let k : ℕ = top - j in
      let e : suc j + k ≡ suc (j + k) = omega arith in
      ap (λ i. take i xs ++ take k (drop j xs) ++ drop (i + k) xs) (add-one j)
      ∙ ap (λ i. take (suc j) xs ++ take k (drop j xs) ++ drop i xs) e
      ∙ lift-copy k j d xs (omega arith)

  -- What is then put at the j-th stands before those that went up.
  pub lift-put : (k j : ℕ) (d x : A) (xs : List A) → k + j < length xs
      → take (suc (k + j)) (set (lift k j d xs) j x) ≡ take j xs ++ x ∷ take k (drop j xs)
  lift-put k j d x [] h = absurd (omega arith)
  lift-put k zero d x (y ∷ ys) h =
      rw (add-zero k, lift-first k d y ys (omega arith))
      (ap (λ (l : List A). x ∷ l) (take_at (take k (y ∷ ys)) (drop k ys) k (length-take-le k (y ∷ ys) (omega arith))))
  lift-put k (suc j) d x (y ∷ ys) h =
      rw (lift-behind k j d y ys, add-suc k j) (ap (λ (l : List A). y ∷ l) (lift-put k j d x ys (omega arith)))

  -- ---- those that are kept

  take-least : (a b m : ℕ) (xs : List A) → m ≤ b → (m ≡ a) ⊎ ((m ≡ b) × (b ≤ a)) → take a (take b xs) ≡ take m xs
  take-least a b m xs h (inl e) = rw (sym e) (take-take m b xs h)
  take-least a b m xs h (inr e) =
      rw e.0 (take_all a (take b xs) (simp length-take (omega (arith, e.1))))

  -- Of n in use one more, or as many as there is room for: `top` is the last of them.
  pub kept_new : (size n j top : ℕ) (x : A) (xs : List A) → j ≤ top → top ≤ n → (suc top ≡ size) ⊎ ((top ≡ n) × (n < size)) → n ≤ length xs
      → take size (take j (take n xs) ++ x ∷ drop j (take n xs)) ≡ take j xs ++ x ∷ take (top - j) (drop j xs)
  kept_new zero n j top x xs hj ht c l = ⊎_elim (λ e. absurd (omega arith)) (λ e. absurd (omega arith)) c
  kept_new (suc size) n zero top x xs hj ht c l =
      rw (native.Mathlib.Nat.sub-zero top)
      (ap (λ (zs : List A). x ∷ zs) (take-least size n top xs ht (⊎_elim (λ e. inl (omega arith)) (λ e. inr (e.0, omega arith)) c)))
  kept_new (suc size) zero (suc j) top x xs hj ht c l = absurd (omega arith)
  kept_new (suc size) (suc n) (suc j) zero x xs hj ht c l = absurd (omega arith)
  kept_new (suc size) (suc n) (suc j) (suc top) x [] hj ht c l = absurd (omega arith)
  kept_new (suc size) (suc n) (suc j) (suc top) x (y ∷ ys) hj ht c l =
      let e : suc top - suc j ≡ top - j = omega arith in
      rw e
      (ap (λ (zs : List A). y ∷ zs)
      (kept_new size n j top x ys (omega arith) (omega arith) (⊎_elim (λ e. inl (omega arith)) (λ e. inr (omega arith, omega arith)) c)
      (omega arith)))
