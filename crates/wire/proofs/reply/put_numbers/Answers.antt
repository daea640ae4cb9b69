-- `put_numbers` meets its contract: a number is written, and those behind it are left to write.
use Rattle.std.proofs.Common.{◌≡◌, [], sym, ◌∙◌, drop, arith}
use lib.ListN.{drop_of_length-le}
use Rattle.wire.specs.Reply.{numbers}
use Rattle.wire.proofs.Written.{numbers-turn}
use Rattle.wire.proofs.reply.put_numbers.Goals as goal

pub loop-i-preserved : goal.loop-i-preserved
loop-i-preserved c =
    let l = c.loop-i in
    let a = c.args in
    l.invariant ∙ numbers-turn l.answer a.at a.ns.now l.i (omega arith) ∙ rw c.put_u16.ensures

pub returns : goal.returns
unfolding numbers
returns c =
    let l = c.loop-i in
    let ns = c.args.ns.now in
    let none : drop l.i ns ≡ [] = drop_of_length-le ns {i = l.i} (omega arith) in
    sym (rw none at l.invariant)
