-- `judge_entries` meets its contract: a turn judges the entry at `at`, and the whole is good if that is and those behind it are.
-- Each fact is shown over plain numbers and lists first, so that no tactic has to read the records of the whole function.
use Rattle.std.proofs.Common.{ℕ, List, Bool, true, false, ◌≡◌, ◌+◌, ◌-◌, ◌≤◌, ◌<◌, sym, ◌∙◌, arith}
use mathlib.Core.Bool.{◌&&◌, ◌||◌}
use native.Mathlib.Nat.{sub-zero, le_refl}
use borrow.Author.Tests.{eq-eqb, ne_eqb}
use lib.Dec.{eqb, ltb}
use Rattle.coding.proofs.KeyLaws.{lt_test}
use Rattle.table.specs.Limits.{entry_limit, table_head}
use Rattle.table.specs.Entry.{entry_form, length_at, kind_at, key_at}
use Rattle.table.specs.Table.{entries_at, entries_good}
use Rattle.table.specs.Search.{greatest_key}
use Rattle.table.proofs.Form.{formed}
use Rattle.table.proofs.Room.{none_left}
use Rattle.table.proofs.Turn.{least_after, good_turn, last_after, greatest-last, last_turn, last_end}
use Rattle.table.proofs.valid.judge_entries.Goals as goal

-- All entries, at the loop's start, and none where it ends.
all_left : (s : List ℕ) (n end : ℕ) → entries_good n s table_head 0 end ≡ entries_good (n - 0) s table_head (least_after 0 0) end
unfolding least_after
all_left s n end = rw sub-zero

last-left : (s : List ℕ) (n : ℕ) → greatest_key (entries_at n s table_head) ≡ last_after 0 (entries_at (n - 0) s table_head)
last-left s n = rw sub-zero (greatest-last (entries_at n s table_head))

ended : (s : List ℕ) (n i at least end : ℕ) (whole : Bool) → n ≤ i → whole ≡ entries_good (n - i) s at least end → eqb at end ≡ whole
unfolding entries_good
ended s n i at least end whole h e = sym (rw (none_left i n h) at e)

-- At an entry of length `len` and kind `kind`: `form` says whether it is of the form. The whole is good if the entry is and those
-- behind it are.
module _ (s : List ℕ) (n i at last end len kind : ℕ) (whole form : Bool) (h : i < n)
    (e : whole ≡ entries_good (n - i) s at (least_after i last) end)
    (l : len ≡ length_at s at) (k : kind ≡ kind_at s at) (f : form ≡ entry_form kind len) where
  turned : whole
      ≡ (form && (eqb i 0 || ltb last (key_at s at))) && entries_good (n - (i + 1)) s (at + len) (least_after (i + 1) (key_at s at)) end
  turned = cc (good_turn n i s at last end h)

  unformed : form ≡ false → false ≡ whole
  unformed p = let t = rw p at turned in sym t

  -- An entry of the form has at most `entry_limit` bytes.
  short : form ≡ true → len ≤ entry_limit
  short p = (formed kind len (sym f ∙ p)).high

  -- `above` says whether its key, `key`, is above the last.
  module _ (key : ℕ) (above : Bool) (p : form ≡ true) (y : key ≡ key_at s at) (a : above ≡ ltb last key) where
    keyed : whole ≡ (eqb i 0 || above) && entries_good (n - (i + 1)) s (at + len) (least_after (i + 1) key) end
    keyed = let t = rw p at turned in cc t

    falls : (eqb i 0 || above) ≡ false → false ≡ whole
    falls q = let t = rw q at keyed in sym t

    rises : (eqb i 0 || above) ≡ true → whole ≡ entries_good (n - (i + 1)) s (at + len) (least_after (i + 1) key) end
    rises q = rw q at keyed

    next_last : (most : ℕ) → most ≡ last_after last (entries_at (n - i) s at) → most ≡ last_after key (entries_at (n - (i + 1)) s (at + len))
    next_last most g = cc (last_turn n i s at last h)

pub loop-i-init : goal.loop-i-init
loop-i-init c =
    let a = c.args in
    record { near = le_refl _; good = all_left a.s.now a.n a.end; most = last-left a.s.now a.n }

pub returns-then-not-entry_form-clause-good : goal.returns-then-not-entry_form-clause-good
returns-then-not-entry_form-clause-good c =
    unformed _ _ _ _ _ _ _ _ _ _ c.loop-i-test.true c.loop-i.invariant.good
    (c.from-len.ensures ∙ c.length_at.ensures) c.kind_at.ensures c.entry_form.ensures c.if-not-entry_form.true

pub returns-then-not-rises-clause-good : goal.returns-then-not-rises-clause-good
returns-then-not-rises-clause-good c =
    falls _ _ _ _ _ _ _ _ _ _ c.loop-i-test.true c.loop-i.invariant.good
    (c.from-len.ensures ∙ c.length_at.ensures) c.kind_at.ensures c.entry_form.ensures
    _ _ c.if-not-entry_form.false c.key_at-key.ensures (c.lt.ensures ∙ lt_test _ _) c.if-not-rises.true

pub loop-i-preserved : goal.loop-i-preserved
loop-i-preserved c =
    let i = c.loop-i-test.true in
    let l = c.loop-i.invariant in
    let len = c.from-len.ensures ∙ c.length_at.ensures in
    let kind = c.kind_at.ensures in
    let form = c.entry_form.ensures in
    let formed = c.if-not-entry_form.false in
    let key = c.key_at-key.ensures in
    let above = c.lt.ensures ∙ lt_test _ _ in
    record {
      near = omega (arith, short _ _ _ _ _ _ _ _ _ _ i l.good len kind form formed);
      good = rises _ _ _ _ _ _ _ _ _ _ i l.good len kind form _ _ formed key above c.if-not-rises.false;
      most = next_last _ _ _ _ _ _ _ _ _ _ i l.good len kind form _ _ formed key above _ l.most;
    }

pub returns-then-at-end-clause-good : goal.returns-then-at-end-clause-good
returns-then-at-end-clause-good c =
    sym (eq-eqb _ _ c.if-at-end.true) ∙ ended _ _ _ _ _ _ _ c.loop-i-test.false c.loop-i.invariant.good

pub returns-then-at-end-clause-greatest : goal.returns-then-at-end-clause-greatest
returns-then-at-end-clause-greatest c = sym (c.loop-i.invariant.most ∙ last_end _ _ _ _ _ c.loop-i-test.false)

pub returns-else-at-end-clause-good : goal.returns-else-at-end-clause-good
returns-else-at-end-clause-good c =
    sym (ne_eqb _ _ c.if-at-end.false) ∙ ended _ _ _ _ _ _ _ c.loop-i-test.false c.loop-i.invariant.good
