-- One list kept in the order of another list's rising keys: where a key belongs, and what is put there beside it.
use Rattle.std.specs.Prelude.{ℕ, zero, suc, ◌+◌, ◌≤◌, ◌≡◌, List, [], ◌∷◌, cond, leb, ltb, eqb, length, take, set, get_or}

-- Keys that rise, from `low` on.
abbrev pub Rises : (low : ℕ) → List ℕ → Type 0
Rises low [] = Unit {0}
Rises low (k ∷ ks) = (low ≤ k) × Rises (suc k) ks

-- How many keys in front are below this one.
unfoldable pub rank : (key : ℕ) → List ℕ → ℕ
rank k [] = 0
rank k (j ∷ ks) = cond (leb k j) 0 (suc (rank k ks))

module _ {ℓ} {A : Type ℓ} where
  -- What stands beside the keys, with one more put beside its key, in place of an earlier one under the same key.
  unfoldable pub beside : (key : ℕ) → A → (keys : List ℕ) → List A → List A
  beside k x [] xs = x ∷ []
  beside k x (j ∷ ks) [] = x ∷ []
  beside k x (j ∷ ks) (y ∷ ys) = cond (ltb k j) (x ∷ y ∷ ys) (cond (eqb k j) (x ∷ ys) (y ∷ beside k x ks ys))

  -- The k elements from the j-th on go up by one, the last first.
  unfoldable pub lift : (k j : ℕ) → A → List A → List A
  lift zero j d xs = xs
  lift (suc k) j d xs = lift k j d (set xs (suc (k + j)) (get_or xs (k + j) d))

-- Two arrays of one length, the first n of which are in use: keys that rise, and words beside them.
abbrev pub InUse : (keys words : List ℕ) → (n : ℕ) → Type 0
InUse keys words n = (n ≤ length keys) × (Rises 0 (take n keys) × (length words ≡ length keys))

-- A key and its word put among the first n of two arrays, of which the first r are then in use: as many as fit.
pub record Inserted (keys words : List ℕ) (n key word : ℕ) (keys' words' : List ℕ) (r : ℕ) : Type 0 where
  pub keyed : take r keys' ≡ take (length keys) (beside key key (take n keys) (take n keys))
  pub worded : take r words' ≡ take (length keys) (beside key word (take n keys) (take n words))
  pub inside : r ≤ length keys
