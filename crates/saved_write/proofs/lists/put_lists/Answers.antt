-- `put_lists` meets its contract: a turn writes the first of the lists left.
use Rattle.ldc.specs.Layout.{items_in}
use Rattle.saved_book.specs.Saved.{list_bytes}
use Rattle.saved_write.proofs.Puts.{left-all, left-then, left-room, left-none}
use Rattle.saved_write.proofs.Pieces.{levels-turn, levels-none}
use Rattle.saved_write.proofs.lists.put_lists.Goals as goal

pub loop-n-init : goal.loop-n-init
loop-n-init c = left-all _ _ _

pub put_list-to-requires : goal.put_list-to-requires
put_list-to-requires c =
    let l = c.loop-n in
    let a = c.args in
    let near = c.loop-n-test.true in
    let turn = levels-turn a.places a.lists.now a.head.now l.n near in
    let bytes = list_bytes (items_in a.places a.lists.now a.head.now l.n) in
    (c.requires.0, (c.requires.1.0 l.n near, (near, left-room l.invariant bytes _ turn c.requires.1.1)))

pub loop-n-preserved : goal.loop-n-preserved
loop-n-preserved c =
    let l = c.loop-n in
    let a = c.args in
    let turn = levels-turn a.places a.lists.now a.head.now l.n c.loop-n-test.true in
    let bytes = list_bytes (items_in a.places a.lists.now a.head.now l.n) in
    left-then l.invariant bytes _ turn c.put_list-to.ensures

pub returns : goal.returns
returns c =
    let l = c.loop-n in
    let a = c.args in
    left-none l.invariant (levels-none a.places a.lists.now a.head.now l.n c.loop-n-test.false)
