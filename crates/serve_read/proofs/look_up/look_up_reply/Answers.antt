-- `look_up_reply` meets its contract: the reply is that of the entry at the spot.
use Rattle.std.proofs.Common.{[], sym, ◌∙◌}
use Rattle.ldc.specs.Lent.{store_of}
use Rattle.ldc.proofs.Serving.Replies.{length-reply}
use Rattle.book.specs.Head.{head_words}
use Rattle.book.specs.Pieces.{lent}
use Rattle.wire.proofs.Written.{reply-written}
use Rattle.serve_read.proofs.Decided.{look-found, look-missed}
use Rattle.serve_read.proofs.look_up.look_up_reply.Goals as goal

pub returns-in-None : goal.returns-in-None
returns-in-None c =
    let a = c.args in
    let s = store_of (lent a.area.now a.cards.now a.lists.now (head_words a.head) a.memory.now) in
    let t = rw c.in-None.is at c.look_up-spot.ensures in
    rw (look-missed s a.key.value t.shown) (record {
      bytes = c.write_head.ensures ∙ reply-written a.answer.now a.at 3 64 [];
      count = sym (length-reply 3 64 []);
    })

pub returns-in-Some-Memory : goal.returns-in-Some-Memory
returns-in-Some-Memory c =
    let a = c.args in
    let s = store_of (lent a.area.now a.cards.now a.lists.now (head_words a.head) a.memory.now) in
    let is = rw c.in-Some-Memory.is at c.in-Some-Memory.field-0-is in
    let t = rw (c.in-Some-Memory.is, is) at c.look_up-spot.ensures in
    rw (look-found s a.key.value _ t.shown) c.value_reply.ensures

pub returns-in-Some-Place : goal.returns-in-Some-Place
returns-in-Some-Place c =
    let a = c.args in
    let s = store_of (lent a.area.now a.cards.now a.lists.now (head_words a.head) a.memory.now) in
    let is = rw c.in-Some-Place.is at c.in-Some-Place.field-0-is in
    let t = rw (c.in-Some-Place.is, is) at c.look_up-spot.ensures in
    let same = c.bytes_of.ensures.0 in
    let r = c.value_reply-in-Some-Place.ensures in
    rw (look-found s a.key.value _ t.shown) (rw same at r)
