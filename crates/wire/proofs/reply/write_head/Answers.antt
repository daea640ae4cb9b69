-- `write_head` meets its contract: three numbers, one behind the other.
use Rattle.wire.proofs.Written.{head-written}
use Rattle.wire.proofs.reply.write_head.Goals as goal

pub returns : goal.returns
returns c =
    let a = c.args in
    cc (head-written a.answer.now a.at a.kind a.res a.body)
