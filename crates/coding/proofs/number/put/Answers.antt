-- `put` meets its contract: a turn writes the lowest byte of what is left, and at the end nothing is.
use Rattle.std.proofs.Common.{◌≡◌, ◌-◌, sym, ◌∙◌, arith}
use Rattle.coding.specs.Number.{bytes_of}
use Rattle.coding.proofs.NumberLaws.{put-turn}
use Rattle.coding.proofs.number.put.Goals as goal

pub loop-i-preserved : goal.loop-i-preserved
loop-i-preserved c =
    let l = c.loop-i in
    l.invariant ∙ put-turn l.s c.args.at c.args.width l.i l.rest c.loop-i-test.true

pub returns : goal.returns
unfolding bytes_of
returns c =
    let e : c.args.width - c.loop-i.i ≡ 0 = omega arith in
    let n = c.loop-i.invariant in
    sym (rw e at n)
