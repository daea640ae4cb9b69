-- `report_reply` meets its contract: behind six bytes stand the eight counts, each of which fits two bytes.
use Prim.Native.Nat.{◌+◌}
use mathlib.Core.Path.{◌≡◌, sym, ◌∙◌, ap}
use native.Mathlib.Omega.{arith}
use borrow.Author.Rules.{rules}
use lib.Seq.{sets}
use Rattle.table.proofs.Position.{memory-good}
use Rattle.ldc.proofs.Serving.Replies.{length-reply}
use Rattle.book.specs.Head.{head_words}
use Rattle.wire.specs.Reply.{reply_head, numbers}
use Rattle.wire.proofs.Written.{reply-written}
use Rattle.serve_read.specs.Tally.{counts, report_reply}
use Rattle.serve_read.proofs.Counted.{free-few, frozen-few, links-few, length-counts}
use Rattle.serve_read.proofs.report.report_reply.Statement.{statement}
use Rattle.serve_read.proofs.report.report_reply.Tie as tie

count-cards-requires : tie.Need-count_cards-tally-requires
count-cards-requires c κs = search rules

cast-t8 : tie.Need-overflow_cast-counts
cast-t8 c =
    omega (arith, c.count_cards-tally.ensures.0, free-few c.args.cards.now, c.requires.0.few)

cast-t9 : tie.Need-overflow_cast-counts-2
cast-t9 c = omega (arith, c.requires.0.lists 0 (omega arith))

cast-t10 : tie.Need-overflow_cast-counts-3
cast-t10 c = omega (arith, c.requires.0.lists 1 (omega arith))

cast-t11 : tie.Need-overflow_cast-counts-4
cast-t11 c =
    omega (arith, c.requires.0.lists 2 (omega arith))

-- (Any level's length fits two bytes: which one is counted is not asked here, but in `written`.)
cast-t12 : tie.Need-overflow_cast-counts-5
cast-t12 c =
    let few = c.requires.0.lists in
    omega (arith, few 2 (omega arith), few 3 (omega arith))

cast-t13 : tie.Need-overflow_cast-counts-6
cast-t13 c =
    omega (arith, c.count_cards-tally.ensures.1.0, frozen-few c.args.cards.now, c.requires.0.few)

cast-t14 : tie.Need-overflow_cast-counts-7
cast-t14 c =
    omega (arith, c.count_cards-tally.ensures.1.1, links-few c.args.cards.now c.requires.0.linked, c.requires.0.few)

count-requires : tie.Need-count-requires
count-requires c κs = c.requires.0.place

cast-t16 : tie.Need-overflow_cast-counts-8
cast-t16 c =
    omega (arith, c.count.ensures, (memory-good c.args.memory.now c.requires.0.good).few)

write-head-requires : tie.Need-write_head-requires
write-head-requires c κs = search rules

add-put-numbers : tie.Need-overflow_add-at
add-put-numbers c =
    omega (arith, c.requires.1, c.well_formed)

slice-aggregate-put-numbers : tie.Need-slice_bounds-put_numbers-end
slice-aggregate-put-numbers c = search rules

put-numbers-requires : tie.Need-put_numbers-requires
put-numbers-requires c κs = omega (arith, c.requires.1, c.write_head.auto.answer)

add-result : tie.Need-overflow_add-result
add-result c = search rules

same_length : tie.Need-shape_of-answer
same_length c = search rules

written : (c : tie.After-slice_known-3-1)
    → let a = c.args in
    c.put_numbers.new.answer
    ≡ sets a.answer.now a.at (report_reply a.cards.now (head_words a.head) a.memory.now)
written c =
    let a = c.args in
    let t = c.count_cards-tally.ensures in
    let ns = counts a.cards.now (head_words a.head) a.memory.now in
    let sixteen = length-counts a.cards.now (head_words a.head) a.memory.now in
    c.put_numbers.ensures
    ∙ rw (t.0, t.1.0, t.1.1, c.count.ensures, c.write_head.ensures)
    (ap (λ n. sets (sets a.answer.now a.at (reply_head 7 0 n)) (a.at + 6) (numbers ns)) (sym sixteen)
    ∙ reply-written a.answer.now a.at 7 0 (numbers ns))

returns : tie.Need-returns
returns c =
    let a = c.args in
    record {
      bytes = written c;
      count = omega (arith, length-counts a.cards.now (head_words a.head) a.memory.now, length-reply 7 0 (numbers (counts a.cards.now (head_words a.head) a.memory.now)));
    }

pub report_reply_spec : {M : Type 1} → statement M
report_reply_spec =
    tie.close (tie.spec count-cards-requires cast-t8 cast-t9 cast-t10 cast-t11 cast-t12 cast-t13 cast-t14 count-requires cast-t16 write-head-requires add-put-numbers slice-aggregate-put-numbers put-numbers-requires add-result same_length returns)
