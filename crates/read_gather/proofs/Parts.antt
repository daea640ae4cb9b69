-- A part of a list, from one index up to another, as it is lent: which element of the list stands where in it.
use Prim.Native.Nat.{ℕ, ◌+◌, ◌-◌, ◌≤◌, ◌<◌}
use mathlib.Core.Path.{◌≡◌, ◌∙◌}
use mathlib.Core.List.{List}
use native.Mathlib.Omega.{arith}
use lib.ListN.{length, take, drop, get_or, length-take, length-drop}
use lib.Seq.{get_or-take, get_or-drop}

module _ (xs : List ℕ) (a b i : ℕ) where
  pub part-within : i < length (take (b - a) (drop a xs)) → (a + i < b) × (a + i < length xs)
  part-within h = omega (arith, simp (length-take, length-drop) at h)

  pub part-at : i < length (take (b - a) (drop a xs)) → get_or (take (b - a) (drop a xs)) i 0 ≡ get_or xs (a + i) 0
  part-at h = get_or-take (b - a) (drop a xs) i 0 (omega (arith, part-within h)) ∙ get_or-drop a xs i 0

  pub part-end : b ≤ length xs → length (take (b - a) (drop a xs)) ≤ i → b ≤ a + i
  part-end l h = omega (arith, simp (length-take, length-drop) at h)
