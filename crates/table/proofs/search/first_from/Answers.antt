-- `first_from` meets its contract: an entry stands where the loop does, so it can be read, and the next stands behind it. A key below the
-- one sought is counted on.
use Rattle.std.proofs.Common.{◌≡◌, sym, ◌∙◌, arith}
use native.Mathlib.Nat.{sub-zero, zero-add}
use Rattle.coding.proofs.KeyLaws.{le_holds, le_fails}
use Rattle.table.specs.Table.{entries}
use Rattle.table.proofs.Position.{stands_at, position_first, position-after}
use Rattle.table.proofs.Room.{length-within, head-within, next_fits}
use Rattle.table.proofs.Turn.{all-passed, one-passed, none-left}
use Rattle.table.proofs.search.first_from.Goals as goal

pub loop-index-init : goal.loop-index-init
unfolding entries
loop-index-init c =
    record { place = sym (position_first c.args.s.now); passed = rw (sub-zero, c.count-n.ensures, zero-add) }

pub key_at-requires : goal.key_at-requires
key_at-requires c =
    let l = c.loop-index in
    head-within c.args.s.now l.at c.requires.0 (stands_at c.args.s.now c.requires.1 l.index l.at (omega arith) l.invariant.place)

pub returns-then-le : goal.returns-then-le
returns-then-le c =
    let l = c.loop-index in
    let passed = all-passed _ _ _ _ _ _ l.invariant.passed c.loop-index-test.true _ c.key_at.ensures (le_holds _ _ c.if-le.ensures) in
    (passed, l.invariant.place)

pub length_at-requires : goal.length_at-requires
length_at-requires c =
    let l = c.loop-index in
    length-within c.args.s.now l.at c.requires.0 (stands_at c.args.s.now c.requires.1 l.index l.at (omega arith) l.invariant.place)

pub overflow_add-at : goal.overflow_add-at
overflow_add-at c =
    let l = c.loop-index in
    next_fits c.args.s.now l.at c.requires.0 (stands_at c.args.s.now c.requires.1 l.index l.at (omega arith) l.invariant.place) _
    (c.from-at.ensures ∙ c.length_at.ensures)

pub loop-index-preserved : goal.loop-index-preserved
loop-index-preserved c =
    let l = c.loop-index in
    let len = c.from-at.ensures ∙ c.length_at.ensures in
    record {
      place = position-after _ _ _ _ l.invariant.place len;
      passed = one-passed _ _ _ _ _ _ l.invariant.passed c.loop-index-test.true _ c.key_at.ensures (le_fails _ _ c.if-le.ensures) _ len;
    }

pub returns : goal.returns
returns c =
    let l = c.loop-index in
    let i : l.index ≡ c.count-n.result = omega arith in
    let t = none-left _ _ _ _ _ _ l.invariant.passed (omega arith) in
    (sym i ∙ t, rw i at l.invariant.place)
