-- First matches in a list of entries, how many lie in a range, and where in a place's bytes they stand. No definition
-- uses that keys rise; the code does.
use Rattle.std.specs.Prelude.{ℕ, zero, suc, ◌+◌, List, [], ◌∷◌, cond, ◌&&◌, leb, eqb}
use Rattle.std.specs.Prelude as code
use Rattle.std.proofs.Math.Option.{Option, some, none}
use Rattle.table.specs.Limits.{table_head}
use Rattle.table.specs.Entry.{Entry, length_at, key_at, entry_at}
use Rattle.table.specs.Table.{count_of}

-- The first entry with this key.
unfoldable pub find : ℕ → List Entry → Option Entry
find k [] = none
find k (e ∷ es) = cond (eqb e.key k) (some e) (find k es)

-- The first entry whose key is not below this one: in rising entries the least key from there on.
unfoldable pub first_from : ℕ → List Entry → Option Entry
first_from k [] = none
first_from k (e ∷ es) = cond (leb k e.key) (some e) (first_from k es)

-- How many entries in front have keys below this one.
unfoldable pub count_below : (key : ℕ) → List Entry → ℕ
count_below k [] = 0
count_below k (e ∷ es) = cond (leb k e.key) 0 (suc (count_below k es))

-- How many entries have keys from low to high, both included.
unfoldable pub count_within : (low high : ℕ) → List Entry → ℕ
count_within low high [] = 0
count_within low high (e ∷ es) =
    cond (leb low e.key && leb e.key high) (suc (count_within low high es)) (count_within low high es)

-- The key of the first entry, and of the last.
unfoldable pub least_key : List Entry → ℕ
least_key [] = 0
least_key (e ∷ es) = e.key

unfoldable pub greatest_key : List Entry → ℕ
greatest_key [] = 0
greatest_key (e ∷ []) = e.key
greatest_key (e ∷ f ∷ es) = greatest_key (f ∷ es)

-- Where the i-th of the entries from a position on stands.
unfoldable pub position_at : (i : ℕ) → List ℕ → (at : ℕ) → ℕ
position_at zero s at = at
position_at (suc i) s at = position_at i s (at + length_at s at)

unfoldable pub position_in : (i : ℕ) → List ℕ → ℕ
position_in i s = position_at i s table_head

-- Where `find` has its answer, in n entries from a position on and in a whole place.
unfoldable pub find_at : (n : ℕ) → List ℕ → (at key : ℕ) → code.Option ℕ
find_at zero s at k = code.None
find_at (suc n) s at k = cond (eqb (key_at s at) k) (code.Some at) (find_at n s (at + length_at s at) k)

unfoldable pub find_in : List ℕ → (key : ℕ) → code.Option ℕ
find_in s k = find_at (count_of s) s table_head k

-- Where `first_from` has its answer.
unfoldable pub seek_at : (n : ℕ) → List ℕ → (at key : ℕ) → code.Option ℕ
seek_at zero s at k = code.None
seek_at (suc n) s at k = cond (leb k (key_at s at)) (code.Some at) (seek_at n s (at + length_at s at) k)

unfoldable pub seek_in : List ℕ → (key : ℕ) → code.Option ℕ
seek_in s k = seek_at (count_of s) s table_head k

-- The entry at a place that was found.
unfoldable pub shown : List ℕ → code.Option ℕ → Option Entry
shown s (code.Some at) = some (entry_at s at)
shown s code.None = none
