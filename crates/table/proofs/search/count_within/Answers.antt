-- `count_within` meets its contract: an entry stands where the loop does, so it can be read, and the next stands behind it. Those from the
-- low end on are in the range as long as they are not above its high end, since keys rise.
use Rattle.std.proofs.Common.{ℕ, suc, ◌≡◌, ◌+◌, ◌-◌, ◌≤◌, List, true, sym, ◌∙◌, arith}
use Rattle.coding.proofs.KeyLaws.{lt_holds, lt_fails}
use Rattle.table.specs.Table.{count_of, entries, entries_at, is_memory}
use Rattle.table.specs.Search.{count_below, count_within, position_in}
use Rattle.table.proofs.Position.{stands_at, position-after}
use Rattle.table.proofs.Room.{length-within, head-within, next_fits}
use Rattle.table.proofs.Turn.{all-passed, one-passed, none-left}
use Rattle.table.proofs.Within.{within-from, below-few}
use Rattle.table.proofs.search.count_within.Goals as goal

-- Those in the range are counted from the first one on: the f-th of n, which stands at `start`.
module _ (s : List ℕ) (low n f : ℕ) (e : n ≡ count_of s) (g : f ≡ count_below low (entries s)) where
  few : f ≤ n
  few = omega (arith, below-few low s)

  -- i are passed, f of them before the range.
  counted : is_memory s ≡ true → (high start : ℕ) → start ≡ position_in f s
      → (i : ℕ) → f ≤ i → i ≡ f + count_below (suc high) (entries_at (n - f) s start)
      → i - f ≡ count_within low high (entries s)
  counted m high start p i h q =
      let c : count_within low high (entries s) ≡ count_below (suc high) (entries_at (n - f) s start) = cc (within-from s low high m) in
      omega arith

pub key_at-requires : goal.key_at-requires
key_at-requires c =
    let l = c.loop-i in
    head-within _ _ c.requires.0 (stands_at c.args.s.now c.requires.1 l.i l.at (omega arith) l.invariant.place)

pub returns-then-lt : goal.returns-then-lt
returns-then-lt c =
    let l = c.loop-i in
    let first = c.first_from-first in
    counted _ _ _ _ c.count-n.ensures first.ensures.0 c.requires.1 _ _ first.ensures.1 _ (omega arith)
    (all-passed _ _ _ _ _ _ l.invariant.passed c.loop-i-test.true _ c.key_at.ensures (lt_holds _ _ c.if-lt.ensures))

pub length_at-requires : goal.length_at-requires
length_at-requires c =
    let l = c.loop-i in
    length-within _ _ c.requires.0 (stands_at c.args.s.now c.requires.1 l.i l.at (omega arith) l.invariant.place)

pub overflow_add-at : goal.overflow_add-at
overflow_add-at c =
    let l = c.loop-i in
    next_fits _ _ c.requires.0 (stands_at c.args.s.now c.requires.1 l.i l.at (omega arith) l.invariant.place) _
    (c.from-at.ensures ∙ c.length_at.ensures)

pub loop-i-preserved : goal.loop-i-preserved
loop-i-preserved c =
    let l = c.loop-i in
    let len = c.from-at.ensures ∙ c.length_at.ensures in
    let low = lt_fails c.args.high.value c.key_at.result.value c.if-lt.ensures in
    record {
      place = position-after _ _ _ _ l.invariant.place len;
      passed = one-passed _ _ _ _ _ _ l.invariant.passed c.loop-i-test.true _ c.key_at.ensures (omega (arith, low)) _ len;
    }

pub overflow_sub-result-2 : goal.overflow_sub-result-2
overflow_sub-result-2 c = few _ _ _ _ c.count-n.ensures c.first_from-first.ensures.0

pub returns : goal.returns
returns c =
    let l = c.loop-i in
    let first = c.first_from-first in
    let f = few _ _ _ _ c.count-n.ensures first.ensures.0 in
    let i : l.i ≡ c.count-n.result = omega arith in
    counted _ _ _ _ c.count-n.ensures first.ensures.0 c.requires.1 _ _ first.ensures.1 _ f
    (sym i ∙ none-left _ _ _ _ _ _ l.invariant.passed (omega arith))
