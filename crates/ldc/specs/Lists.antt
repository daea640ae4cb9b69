-- Small functions on lists that the definition is written with.
use Rattle.std.specs.Prelude.{ℕ, zero, suc, List, [], ◌∷◌, ◌++◌, Bool, true, false, cond, ◌&&◌, ◌||◌}
use Rattle.std.proofs.Math.Option.{Option, some, none}

module _ {ℓ} {A : Type ℓ} where
  -- Do all elements pass the test? Does any?
  abbrev pub all : (A → Bool) → List A → Bool
  all p [] = true
  all p (x ∷ xs) = p x && all p xs

  abbrev pub any : (A → Bool) → List A → Bool
  any p [] = false
  any p (x ∷ xs) = p x || any p xs

  -- Those that pass, in their order; the first of them; how many they are.
  abbrev pub keep : (A → Bool) → List A → List A
  keep p [] = []
  keep p (x ∷ xs) = cond (p x) (x ∷ keep p xs) (keep p xs)

  abbrev pub first : (A → Bool) → List A → Option A
  first p [] = none
  first p (x ∷ xs) = cond (p x) (some x) (first p xs)

  abbrev pub how_many : (A → Bool) → List A → ℕ
  how_many p [] = 0
  how_many p (x ∷ xs) = cond (p x) (suc (how_many p xs)) (how_many p xs)

  abbrev pub is_empty : List A → Bool
  is_empty [] = true
  is_empty (x ∷ xs) = false

  -- The lists one after the other.
  abbrev pub flat : List (List A) → List A
  flat [] = []
  flat (xs ∷ xss) = xs ++ flat xss

  abbrev pub is_some : Option A → Bool
  is_some none = false
  is_some (some x) = true

-- Does every number from `from` on, `n` of them, pass the test?
abbrev pub all_from : (n from : ℕ) → (ℕ → Bool) → Bool
all_from zero i test = true
all_from (suc n) i test = test i && all_from n (suc i) test
