-- `put` meets its contract: the table is built beside the old one and copied over it, or nothing is done.
use Rattle.std.proofs.Common.{◌∙◌, arith}
use Rattle.coding.proofs.Sets.{sets-all}
use Rattle.memtable.proofs.Serve.{put-done, put_full}
use Rattle.memtable.proofs.put.put.Goals as goal

pub returns-then-held-count : goal.returns-then-held-count
returns-then-held-count c =
    let a = c.args in
    let e = put-done a.kind a.key.value a.value.now a.memory.now c.holds_key-held.result c.holds_key-held.ensures
    (rw (← c.count.ensures) c.if-held-count.true) in
    (rw e, c.copy.ensures ∙ sets-all a.memory.now c.build_with.new.to (omega (arith, c.requires.0)) ∙ c.build_with.ensures ∙ rw e)

pub returns-else-held-count : goal.returns-else-held-count
returns-else-held-count c =
    let a = c.args in
    let e = put_full a.kind a.key.value a.value.now a.memory.now c.holds_key-held.result c.holds_key-held.ensures
    (rw (← c.count.ensures) c.if-held-count.false) in
    (rw e, rw e)
