-- `flush_reply` meets its contract: what `flush` leaves, and a reply without a body.
use mathlib.Core.Path.{refl}
use borrow.Author.Rules.{rules}
use Rattle.ldc.specs.Lent.{store_of}
use Rattle.ldc.specs.Place.{serve_flush}
use Rattle.book.specs.Head.{head_words}
use Rattle.book.specs.Pieces.{lent}
use Rattle.serve_write.proofs.Turns.{turn-bare, flush-body}
use Rattle.serve_write.proofs.steps.flush_reply.Statement.{statement}
use Rattle.serve_write.proofs.steps.flush_reply.Tie as tie

flush-requires : tie.Need-flush-done-requires
flush-requires c κs =
    c.requires.0

answer-bare-requires : tie.Need-answer_bare-requires
answer-bare-requires c κs = search rules

same_length : tie.Need-shape_of-area
same_length c = search rules

same-length-2 : tie.Need-shape_of-cards
same-length-2 c = search rules

same-length-3 : tie.Need-shape_of-lists
same-length-3 c = search rules

same-length-4 : tie.Need-shape_of-memory
same-length-4 c = search rules

same-length-5 : tie.Need-shape_of-answer
same-length-5 c = search rules

returns : tie.Need-returns
returns c =
    let f = c in
    let r = c in
    let a = f.args in
    let v = serve_flush (store_of (lent a.area.now a.cards.now a.lists.now (head_words a.head) a.memory.now)) in (
      turn-bare 5 f.flush-done.result.result v _ a.answer.now _ a.at _ f.flush-done.ensures.0 (flush-body _) f.flush-done.ensures.1
          r.answer_bare.ensures,
      refl,
    )

pub flush_reply_spec : {M : Type 1} → statement M
flush_reply_spec =
    tie.close (tie.spec flush-requires answer-bare-requires same_length same-length-2 same-length-3 same-length-4 same-length-5 returns)
