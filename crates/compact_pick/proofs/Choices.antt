-- The choice in a level: the round begins behind the tables that the mark passes, and what is found in its two parts is found in it.
use Prim.Native.Nat.{ℕ, ◌-◌, ◌≤◌, ◌<◌}
use mathlib.Core.Path.{◌≡◌, sym, ◌∙◌, ap}
use mathlib.Core.List.{List, ◌++◌}
use mathlib.Core.Bool.{true}
use mathlib.Core.Option.{Option, some, none}
use native.Mathlib.Omega.{arith}
use lib.Dec.{ltb}
use lib.ListN.{length, get_or, take, drop, length-drop, drop_of_length-le}
use lib.Seq.{take-length, get_or-take, drop-cons}
use Rattle.ldc.specs.Lists.{first, is_empty}
use Rattle.table.specs.Search.{least_key}
use Rattle.ldc.specs.Store.{Store, links, level, mark, table}
use Rattle.ldc.specs.Tidy.{passed, round}
use Rattle.book.specs.Place.{the_index}
use Rattle.std.specs.Prelude as code
use Rattle.std.specs.Prelude.{Some, None}
use Rattle.compact_pick.specs.Due.{passes_by, Linked}
use Rattle.compact_pick.specs.declared.due.Wanted.TheVariants.{Bare}
use Rattle.compact_pick.specs.Plan.{OnLevel, level_plan}
use Rattle.compact_pick.specs.declared.Plan.TheVariants.{Down, Merge}
use Rattle.compact_pick.proofs.Dues.{first-left, first-right, bare-same}

-- The rest of a list, as the code takes it.
pub part-rest : (items : List ℕ) (k : ℕ) → take (length items - k) (drop k items) ≡ drop k items
part-rest items k = rw (← (length-drop k items)) (take-length (drop k items))

-- The round's first table, where the mark has passed all.
pub first_back : (items : List ℕ) (k : ℕ) → 0 < length items → length items ≤ k → get_or (drop k items ++ take k items) 0 0 ≡ get_or items 0 0
first_back items k h l = rw (drop_of_length-le items {i = k} l) (get_or-take k items 0 0 (omega arith))

-- At the first table with a least key above the mark's no more are passed.
pub passed_here : (s : Store) (k : ℕ) (xs : List ℕ) (i : ℕ) → i < length xs → ltb k (least_key (table s (get_or xs i 0))) ≡ true
    → passed s (some k) (drop i xs) ≡ 0
passed_here s k xs i h q = rw (drop-cons xs i 0 h, q)

-- What is found in the two parts of the round, the first behind the tables that the mark passes.
module _ (s : Store) (area : List ℕ) (cards : List (List ℕ)) (items : List ℕ) (n k : ℕ) (b : Linked s cards)
    (el : level s n ≡ items) (ek : k ≡ passed s (mark s n) items) where
  round_is : round s n ≡ drop k items ++ take k items
  unfolding round
  round_is = rw (el, ← ek)

  front : first (passes_by area cards Bare) (drop k items) ≡ first (λ p. is_empty (links s p)) (drop k items)
  front = bare-same s area cards b (drop k items)

  back : first (passes_by area cards Bare) (take k items) ≡ first (λ p. is_empty (links s p)) (take k items)
  back = bare-same s area cards b (take k items)

  pub down-front : (p : ℕ) → first (passes_by area cards Bare) (drop k items) ≡ some p → Down n p ≡ level_plan s (some n)
  unfolding level_plan
  down-front p e =
      let found = ap (first (λ p. is_empty (links s p))) round_is
      ∙ first-left (λ p. is_empty (links s p)) (drop k items) (take k items) p (sym front ∙ e) in
      rw found

  module _ (missed : first (passes_by area cards Bare) (drop k items) ≡ none) where
    behind : first (λ p. is_empty (links s p)) (round s n) ≡ first (passes_by area cards Bare) (take k items)
    behind =
        ap (first (λ p. is_empty (links s p))) round_is
        ∙ first-right (λ p. is_empty (links s p)) (drop k items) (take k items) (sym front ∙ missed) ∙ sym back

    pub down-back : (p : ℕ) → first (passes_by area cards Bare) (take k items) ≡ some p → Down n p ≡ level_plan s (some n)
    unfolding level_plan
    down-back p e = rw (behind, e)

    pub all-linked : first (passes_by area cards Bare) (take k items) ≡ none
        → Merge n (get_or (drop k items ++ take k items) 0 0) ≡ level_plan s (some n)
    unfolding level_plan
    all-linked e = rw (behind, e, round_is)

-- The same of what the code's two searches gave, by the marks of a level: `k` tables are passed, and `after` is the mark.
module _ (s : Store) (area : List ℕ) (cards : List (List ℕ)) (items : List ℕ) (n k : ℕ) (after : Option ℕ)
    (o : OnLevel s n area cards items after) (ek : k ≡ passed s after items) where
  by-mark : k ≡ passed s (mark s n) items
  by-mark = rw o.level-mark ek

  module _ (r : code.Option ℕ) (e : the_index r ≡ first (passes_by area cards Bare) (take (length items - k) (drop k items))) where
    sought : the_index r ≡ first (passes_by area cards Bare) (drop k items)
    sought = e ∙ ap (first (passes_by area cards Bare)) (part-rest items k)

    pub front-goes : (p : ℕ) → r ≡ Some p → Down n p ≡ level_plan s (some n)
    front-goes p h = down-front s area cards items n k o.linked o.level-items by-mark p (sym sought ∙ ap the_index h)

    module _ (missed : r ≡ None) (q : code.Option ℕ) (f : the_index q ≡ first (passes_by area cards Bare) (take k items)) where
      pub back-goes : (p : ℕ) → q ≡ Some p → Down n p ≡ level_plan s (some n)
      back-goes p h =
          down-back s area cards items n k o.linked o.level-items by-mark (sym sought ∙ ap the_index missed) p (sym f ∙ ap the_index h)

      pub first-merges : q ≡ None → Merge n (get_or (drop k items ++ take k items) 0 0) ≡ level_plan s (some n)
      first-merges h =
          all-linked s area cards items n k o.linked o.level-items by-mark (sym sought ∙ ap the_index missed) (sym f ∙ ap the_index h)
