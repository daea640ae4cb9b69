-- `run_and_save` meets its contract: making, the runs and saving are each the definition's.
use borrow.Author.Rules.{rules}
use Rattle.wire.specs.Refusal.{number_of}
use Rattle.book.specs.Pieces.{lent}
use Rattle.history_lists.specs.Pieces.{pieces}
use Rattle.history_grown.proofs.Grows.{ran-saved}
use Rattle.history_grown.proofs.run_and_save.Statement.{statement}
use Rattle.history_grown.proofs.run_and_save.Tie as tie

make-requires : tie.Need-make-requires
make-requires c κs = search rules

run-all-requires : tie.Need-run_all-requires
run-all-requires c κs = search rules

save-requires : tie.Need-save-requires
save-requires c κs = search rules

unwrap-or-requires : tie.Need-unwrap_or-requires
unwrap-or-requires c κs = search rules

same_length : tie.Need-shape_of-area
same_length c = search rules

same-length-2 : tie.Need-shape_of-cards
same-length-2 c = search rules

same-length-3 : tie.Need-shape_of-lists
same-length-3 c = search rules

same-length-4 : tie.Need-shape_of-answers
same-length-4 c = search rules

same-length-5 : tie.Need-shape_of-served
same-length-5 c = search rules

same-length-6 : tie.Need-shape_of-buffer
same-length-6 c = search rules

returns : tie.Need-returns
returns c =
    let s = c in
    let r = s in
    let d = r in
    let a = d.args in
    let made = d.make.new in
    let last = r.run_all.new in
    ran-saved (lent a.area.now a.cards.now a.lists.now a.head.now a.memory.now) a.threshold
    (pieces a.input.now a.ends.now a.answers.now a.stops.now a.served.now) a.n a.buffer.now (number_of d.make.result)
    (lent made.area made.cards made.lists made.head made.memory) d.make.ensures
    (lent last.area last.cards last.lists last.head last.memory)
    (pieces a.input.now a.ends.now last.answers a.stops.now last.served) r.run_all.ensures
    (number_of s.save.result) s.unwrap_or.result s.save.new.buffer (rw s.unwrap_or.ensures s.save.ensures.0)

pub run_and_save_spec : {M : Type 1} → statement M
run_and_save_spec =
    tie.close (tie.spec make-requires run-all-requires save-requires unwrap-or-requires same_length same-length-2 same-length-3 same-length-4 same-length-5 same-length-6 returns)
