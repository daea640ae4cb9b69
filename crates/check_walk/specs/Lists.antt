-- Items that name places.
use Rattle.std.specs.Prelude.{ℕ, List, Bool, ltb}
use Rattle.ldc.specs.Lists.{all}

-- Do items name places, of which there are so many?
unfoldable pub names_places : (places : ℕ) → (items : List ℕ) → Bool
names_places places items = all (λ i. ltb i places) items
