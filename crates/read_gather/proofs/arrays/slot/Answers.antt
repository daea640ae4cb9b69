-- `slot` meets its contract: a key below ours has only such keys before it, one that is not below it does not count, and before the first
-- stands none.
use Rattle.std.proofs.Common.{◌≡◌, ◌+◌, ◌-◌, sym, ◌∙◌, arith}
use Rattle.read_gather.proofs.Ranks.{slot_turn, slot-stop, slot-end}
use Rattle.read_gather.proofs.arrays.slot.Goals as goal

pub returns-then-keys-j : goal.returns-then-keys-j
returns-then-keys-j c =
    let a = c.args in
    let l = c.loop-j in
    let e : l.j - 1 + 1 ≡ l.j = omega arith in
    e ∙ sym (l.invariant ∙ slot-stop a.keys.now a.n l.j a.key c.loop-j-test.true l.auto.j c.requires.0 c.requires.1 c.if-keys-j.true)

pub loop-j-preserved : goal.loop-j-preserved
loop-j-preserved c =
    let a = c.args in
    let l = c.loop-j in
    l.invariant ∙ slot_turn a.keys.now a.n l.j a.key c.loop-j-test.true l.auto.j c.requires.0 c.if-keys-j.false

pub returns : goal.returns
returns c =
    let l = c.loop-j in
    let z : l.j ≡ 0 = omega arith in
    sym (l.invariant ∙ slot-end c.args.keys.now l.j c.args.key c.loop-j-test.false ∙ z)
