-- The search of a level below: how many tables a key has passed.
use Rattle.std.specs.Prelude.{ℕ, suc, List, [], ◌∷◌, cond, ltb}
use Rattle.ldc.specs.Store.{Store, span_end}

-- How many tables in front have spans that end below this key.
unfoldable pub rank : Store → (key : ℕ) → List ℕ → ℕ
rank s k [] = 0
rank s k (p ∷ ps) = cond (ltb (span_end s p) k) (suc (rank s k ps)) 0
