-- Level lists: where an item stands, and a part of the lent lists with one item replaced.
use Rattle.std.specs.Prelude.{ℕ, suc, ◌-◌, List, [], ◌∷◌, ◌++◌, cond, eqb, length, take, drop, Option, Some, None}
use Rattle.std.proofs.lemmas.List.Edits.{sets}
use Rattle.table.specs.Table.{zeros}

-- The index of the first item that is p, the first of the list having this index; counted from 0.
unfoldable pub index_from : (p first : ℕ) → List ℕ → Option ℕ
index_from p i [] = None
index_from p i (x ∷ xs) = cond (eqb x p) (Some i) (index_from p (suc i) xs)

unfoldable pub index_of : (p : ℕ) → List ℕ → Option ℕ
index_of p xs = index_from p 0 xs

-- A part, n items of it in use, with its i-th replaced by several: they, those behind it, and a zero if there is one item fewer.
unfoldable pub spliced : (i n : ℕ) → (items part : List ℕ) → List ℕ
spliced i n items part = sets part i (items ++ (drop (suc i) (take n part) ++ zeros (1 - length items)))
