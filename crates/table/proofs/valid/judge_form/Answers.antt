-- `judge_form` meets its contract: the head's tests, the entries and the rest, regrouped as the definition has them.
-- Each fact is shown over plain numbers and lists first, so that no tactic has to read the records of the whole function.
use Rattle.std.proofs.Common.{ℕ, List, Bool, true, false, ◌≡◌, sym, ap, ◌∙◌, drop, is_some}
use mathlib.Core.Bool.{◌&&◌}
use lib.Dec.{leb, eqb}
use Rattle.coding.specs.Number.{number_at}
use Rattle.table.specs.Limits.{table_head, table_limit}
use Rattle.table.specs.Entry.{length_at, kind_at}
use Rattle.table.specs.Table.{count_of, entries, entries_good, all_zero, table_good}
use Rattle.table.proofs.Turn.{good-head}
use Rattle.table.proofs.valid.judge_form.Goals as goal

-- What the code tests of the head.
abbrev Head : (fewest kind n pad : ℕ) → Bool
Head fewest kind n pad = eqb kind 32 && (leb fewest n && (leb n table_limit && eqb pad 0))

-- The table is good if its head is, and what follows the head.
module _ (s : List ℕ) (fewest end kind n pad : ℕ)
    (e : end ≡ length_at s 0) (k : kind ≡ kind_at s 0) (c : n ≡ count_of s) (z : pad ≡ number_at 2 s 6) where
  whole : table_good fewest s ≡ Head fewest kind n pad && (entries_good n s table_head 0 end && all_zero (drop end s))
  whole = cc (good-head fewest s)

  judged : (g r : Bool) → Head fewest kind n pad ≡ true → g ≡ entries_good n s table_head 0 end → r ≡ all_zero (drop end s)
      → (g && r) ≡ table_good fewest s
  judged g r h eg er = let t = rw h at whole in cc t

  unlisted : Head fewest kind n pad ≡ true → false ≡ entries_good n s table_head 0 end → false ≡ table_good fewest s
  unlisted h g = let t = rw (h, ← g) at whole in sym t

  refused : Head fewest kind n pad ≡ false → false ≡ table_good fewest s
  refused h = let t = rw h at whole in sym t

pub returns-then-not-headed-clause-good : goal.returns-then-not-headed-clause-good
returns-then-not-headed-clause-good c =
    refused _ _ _ _ _ _ (c.from-end.ensures ∙ c.length_at.ensures) c.kind_at-kind.ensures c.count-n.ensures c.get_u16-zero.ensures
    c.if-not-headed.true

pub returns-in_err-greatest-clause-good : goal.returns-in_err-greatest-clause-good
returns-in_err-greatest-clause-good c =
    ap is_some c.from_residual.ensures
    ∙ unlisted _ _ _ _ _ _ (c.from-end.ensures ∙ c.length_at.ensures) c.kind_at-kind.ensures c.count-n.ensures c.get_u16-zero.ensures
    c.if-not-headed.false c.in_err-greatest.ensures.good

pub returns-then-rest_zero-clause-good : goal.returns-then-rest_zero-clause-good
returns-then-rest_zero-clause-good c =
    judged _ _ _ _ _ _ (c.from-end.ensures ∙ c.length_at.ensures) c.kind_at-kind.ensures c.count-n.ensures c.get_u16-zero.ensures
    _ _ c.if-not-headed.false c.in_ok-greatest.ensures.good c.if-rest_zero.ensures

pub returns-then-rest_zero-clause-greatest : goal.returns-then-rest_zero-clause-greatest
unfolding entries
returns-then-rest_zero-clause-greatest c = rw (← c.count-n.ensures) c.in_ok-greatest.ensures.greatest

pub returns-else-rest_zero-clause-good : goal.returns-else-rest_zero-clause-good
returns-else-rest_zero-clause-good c =
    judged _ _ _ _ _ _ (c.from-end.ensures ∙ c.length_at.ensures) c.kind_at-kind.ensures c.count-n.ensures c.get_u16-zero.ensures
    _ _ c.if-not-headed.false c.in_ok-greatest.ensures.good c.if-rest_zero.ensures
