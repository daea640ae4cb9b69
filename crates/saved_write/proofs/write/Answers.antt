-- `write` meets its contract: the pieces one behind the other, and at last the length of the whole in front of them.
use Rattle.std.proofs.Common.{◌∙◌, arith, length}
use Rattle.saved_write.proofs.Widths.{length-head}
use Rattle.saved_write.proofs.Puts.{put-long, put_then, put_as, put-room}
use Rattle.saved_write.proofs.Whole.{rooms, fields-put, whole-put}
use Rattle.saved_write.proofs.write.Goals as goal

pub put_head-head_end-requires : goal.put_head-head_end-requires
put_head-head_end-requires c =
    (c.requires.0.marks, omega (arith, (rooms _ _ _ _ c.requires.1).one, length-head (length c.args.cards.now) c.args.head.now))

pub put_cards-cards_end-requires : goal.put_cards-cards_end-requires
put_cards-cards_end-requires c =
    (c.requires.0.rows, put-room c.put_head-head_end.ensures _ (rooms _ _ _ _ c.requires.1).two)

pub put_lists-lists_end-requires : goal.put_lists-lists_end-requires
put_lists-lists_end-requires c =
    let written = put_then c.put_head-head_end.ensures c.put_cards-cards_end.ensures in
    (c.requires.0.sized, (c.requires.0.counted.lengths, put-room written _ (rooms _ _ _ _ c.requires.1).three))

pub put_memory-end-requires : goal.put_memory-end-requires
put_memory-end-requires c =
    let written = put_then (put_then c.put_head-head_end.ensures c.put_cards-cards_end.ensures) c.put_lists-lists_end.ensures in
    (c.requires.0.counted.held, put-room written _ (rooms _ _ _ _ c.requires.1).four)

pub put-requires : goal.put-requires
put-requires c =
    let written = put_then (put_then c.put_head-head_end.ensures c.put_cards-cards_end.ensures) c.put_lists-lists_end.ensures in
    let all = put_then written c.put_memory-end.ensures in
    omega (arith, (rooms _ _ _ _ c.requires.1).one, put-long all)

pub returns : goal.returns
returns c =
    let a = c.args in
    let written = put_then (put_then c.put_head-head_end.ensures c.put_cards-cards_end.ensures) c.put_lists-lists_end.ensures in
    let all = put_then written c.put_memory-end.ensures in
    c.put.ensures
    ∙ whole-put a.cards.now a.lists.now a.head.now a.memory.now
    (put_as all (fields-put a.cards.now a.lists.now a.head.now a.memory.now))
