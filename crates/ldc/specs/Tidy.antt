-- Tidy: what step is due. It is named first and done afterwards (`Step`); reply, store and slice list come from that one name.
use Rattle.std.specs.Prelude.{ℕ, zero, suc, ◌+◌, ◌*◌, ◌^◌, ◌-◌, Bool, cond, not, ◌||◌, leb, ltb}
use Rattle.std.specs.Prelude.{List, [], ◌∷◌, ◌++◌, map, length, get_or, take, drop}
use Rattle.std.proofs.Math.Option.{Option, some, none}
use Rattle.table.specs.Limits.{table_limit}
use Rattle.table.specs.Entry.{Entry}
use Rattle.table.specs.Search.{least_key}
use Rattle.ldc.specs.Lists.{any, keep, first, flat, is_empty}
use Rattle.ldc.specs.Store.{Link, Store, level, links, table, mark, sources, span_end, span_holds, within}
use Rattle.ldc.specs.Read.{gather, holds_value}
use Rattle.ldc.specs.Place.{free_places}

-- A slice: a frozen place, the place of the table that it hangs on, and its range.
pub record Slice : Type 0 where
  pub place : ℕ
  pub on : ℕ
  pub low : ℕ
  pub high : ℕ

-- What a tidy does; level and place are those of the chosen or merged table before the step.
pub data Step : Type 0 where
  idle : Step
  refused : Step
  moved : (level place : ℕ) → Step
  linked : (level place : ℕ) → List Slice → Step
  merged : (level place : ℕ) → Step

-- ---- merge: what comes out

-- The tables on lower-lying levels: those of greater number, all of them. Below level 3 there are none.
unfoldable pub lower_tables : Store → (level : ℕ) → List ℕ
lower_tables s n = flat (drop (suc n) s.levels)

-- A merge on any level drops a delete mark exactly if no table on a lower-lying level has a span holding its key.
unfoldable pub drops_mark : Store → (level : ℕ) → Entry → Bool
drops_mark s n e = not (any (λ p. span_holds s p e.key) (lower_tables s n))

-- A value comes out, and a delete mark that is not dropped.
unfoldable pub comes_out : Store → (level : ℕ) → Entry → Bool
comes_out s n e = holds_value e || not (drops_mark s n e)

-- The table's entries and those in its links' ranges, one for each key, the newer winning, as far as they come out.
unfoldable pub merged_entries : Store → (level place : ℕ) → List Entry
merged_entries s n p = keep (comes_out s n) (gather (sources s p))

-- Cut into tables of 16, the last shorter. (The first number only bounds how many tables there can be.)
abbrev pub cut_in : ℕ → List Entry → List (List Entry)
cut_in zero es = []
cut_in (suc n) [] = []
cut_in (suc n) (e ∷ es) = take table_limit (e ∷ es) ∷ cut_in n (drop table_limit (e ∷ es))

unfoldable pub cut : List Entry → List (List Entry)
cut es = cut_in (length es) es

unfoldable pub merged_tables : Store → (level place : ℕ) → List (List Entry)
merged_tables s n p = cut (merged_entries s n p)

-- Number 20: free places fewer than the merge writes; those that it will free don't count.
unfoldable pub merge_step : Store → (level place : ℕ) → Step
merge_step s n p = cond (leb (length (merged_tables s n p)) (free_places s)) (merged n p) refused

-- ---- the due merge

-- The links' numbers, added up.
abbrev pub weight : List Link → ℕ
weight [] = 0
weight (l ∷ ls) = l.number + weight ls

-- A merge is due when a table has T links, or when its links' numbers add up to at least its own entry count.
unfoldable pub due_with : (threshold : ℕ) → List Link → (own : List Entry) → Bool
due_with t ls es = leb t (length ls) || leb (length es) (weight ls)

unfoldable pub due : Store → ℕ → Bool
due s p = due_with s.threshold (links s p) (table s p)

-- A level and a place on it.
pub record Spot : Type 0 where
  pub on : ℕ
  pub place : ℕ

-- The due table of the lowest of these levels, and there of the lowest keys.
abbrev pub spot_or : (level : ℕ) → Option ℕ → Option Spot → Option Spot
spot_or n (some p) other = some (record { on = n; place = p })
spot_or n none other = other

abbrev pub due_in : Store → List ℕ → Option Spot
due_in s [] = none
due_in s (n ∷ ns) = spot_or n (first (due s) (level s n)) (due_in s ns)

unfoldable pub due_table : Store → Option Spot
due_table s = due_in s (1 ∷ 2 ∷ 3 ∷ [])

-- ---- the level

-- The capacity of a level, in live tables: 2 shifted left by twice the level number. Level 3 has none, and none is asked for.
unfoldable pub capacity : (level : ℕ) → ℕ
capacity n = 2 * 2 ^ (2 * n)

-- Is the second level fuller than the first, by live tables over capacity?
unfoldable pub fuller : (live : ℕ → ℕ) → (n m : ℕ) → Bool
fuller live n m = ltb (live n * capacity m) (live m * capacity n)

-- Of two levels the fuller one, of equals the first.
abbrev pub prefer : (live : ℕ → ℕ) → ℕ → Option ℕ → ℕ
prefer live n none = n
prefer live n (some m) = cond (fuller live n m) m n

-- Of these levels, of those above capacity, the fullest; ties to the lower number.
abbrev pub fullest : (live : ℕ → ℕ) → List ℕ → Option ℕ
fullest live [] = none
fullest live (n ∷ ns) = cond (ltb (capacity n) (live n)) (some (prefer live n (fullest live ns))) (fullest live ns)

unfoldable pub overfull : Store → Option ℕ
overfull s = fullest (λ n. length (level s n)) (0 ∷ 1 ∷ 2 ∷ [])

-- ---- the choice in a level

-- How many tables stand before the first whose least own key exceeds the mark. No mark: none.
abbrev pub passed : Store → Option ℕ → List ℕ → ℕ
passed s none ps = 0
passed s (some k) [] = 0
passed s (some k) (p ∷ ps) = cond (ltb k (least_key (table s p))) 0 (suc (passed s (some k) ps))

-- The level's tables in key order from that one on, going round. Level 0 has no mark: from its oldest on.
unfoldable pub round : Store → (level : ℕ) → List ℕ
round s n = drop (passed s (mark s n) (level s n)) (level s n) ++ take (passed s (mark s n) (level s n)) (level s n)

-- ---- link: the ranges

-- The greatest key.
abbrev pub greatest : ℕ
greatest = 2 ^ 64 - 1

-- A place with its span's end.
pub record Reach : Type 0 where
  pub place : ℕ
  pub end : ℕ

-- Each table below is responsible from one above the previous span's end (0 for the first) to its own span's end (2^64 - 1 for the last).
abbrev pub responsible : (frozen from : ℕ) → List Reach → List Slice
responsible f from [] = []
responsible f from (r ∷ []) = record { place = f; on = r.place; low = from; high = greatest } ∷ []
responsible f from (r ∷ q ∷ rs) =
    record { place = f; on = r.place; low = from; high = r.end } ∷ responsible f (suc r.end) (q ∷ rs)

-- Those with at least one of these entries in their range.
abbrev pub holding : List Entry → List Slice → List Slice
holding es ranges = keep (λ r. not (is_empty (within r.low r.high es))) ranges

unfoldable pub slices_of : Store → (level place : ℕ) → List Slice
slices_of s n p =
    holding (table s p) (responsible p 0 (map (λ q. record { place = q; end = span_end s q }) (level s (suc n))))

-- ---- the step

-- The chosen table moves if the next level is empty, and is linked otherwise.
unfoldable pub down_step : Store → (level place : ℕ) → Step
down_step s n p = cond (is_empty (level s (suc n))) (moved n p) (linked n p (slices_of s n p))

-- The first table without links is chosen. If all have links, the first of the round is merged instead.
abbrev pub choice_step : Store → (level : ℕ) → Option ℕ → Step
choice_step s n (some p) = down_step s n p
choice_step s n none = merge_step s n (get_or (round s n) 0 0)

abbrev pub level_step : Store → Option ℕ → Step
level_step s none = idle
level_step s (some n) = choice_step s n (first (λ p. is_empty (links s p)) (round s n))

abbrev pub due_step : Store → Option Spot → Step
due_step s (some d) = merge_step s d.on d.place
due_step s none = level_step s (overfull s)

-- A due merge comes first.
unfoldable pub tidy_step : Store → Step
tidy_step s = due_step s (due_table s)
