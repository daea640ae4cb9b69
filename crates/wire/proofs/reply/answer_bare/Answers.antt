-- `answer_bare` meets its contract: six bytes and no body are the reply.
use mathlib.Core.Path.{sym, ◌∙◌}
use mathlib.Core.List.{[]}
use Rattle.ldc.proofs.Serving.Replies.{length-reply}
use Rattle.wire.proofs.Written.{reply-written}
use Rattle.wire.proofs.reply.answer_bare.Goals as goal

pub returns : goal.returns
returns c =
    let a = c.args in
    record {
      bytes = c.write_head.ensures ∙ reply-written a.answer.now a.at a.kind a.res [];
      count = sym (length-reply a.kind a.res []);
    }
