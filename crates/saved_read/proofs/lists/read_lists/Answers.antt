-- `read_lists` meets its contract. A part is lent and comes back; the list in it is taken off the front of those left.
use Rattle.std.proofs.Common.{◌≡◌, ◌*◌, ◌≤◌, ◌<◌, sym, ◌∙◌, arith, length}
use Rattle.coding.specs.Number.{number_at}
use Rattle.ldc.specs.Layout.{level_count}
use Rattle.saved_book.specs.Form.{memory_start}
use Rattle.saved_book.proofs.Forms.{form-parts}
use Rattle.saved_read.proofs.Levels.{list-next, part-lent, parts-start, parts-turn, parts-done}
use Rattle.saved_read.proofs.lists.read_lists.Goals as goal

pub loop-level-init : goal.loop-level-init
loop-level-init c =
    let f = form-parts c.args.s.now c.requires.0 in
    record {
      stand = rw c.requires.1.0 f.lists;
      left = rw c.requires.1.0 (parts-start c.args.lists.now c.args.places c.args.s.now f c.requires.1.1.1 c.requires.1.1.0);
    }

pub read_list-requires : goal.read_list-requires
read_list-requires c =
    let l = c.loop-level in
    let more : l.level < level_count = omega arith in
    let front = (list-next c.args.s.now l.from level_count l.level (memory_start c.args.s.now) more l.invariant.stand).0 in
    let lent = part-lent l.lists c.args.places c.args.s.now l.from level_count l.level more (omega (arith, c.requires.1.1.0)) in
    (front.room, rw lent (omega (arith, front.few, c.requires.1.1.1)))

pub list_end-from-requires : goal.list_end-from-requires
list_end-from-requires c =
    let l = c.loop-level in
    (list-next c.args.s.now l.from level_count l.level (memory_start c.args.s.now) (omega arith) l.invariant.stand).0.room

pub loop-level-preserved : goal.loop-level-preserved
loop-level-preserved c =
    let l = c.loop-level in
    let s = c.args.s.now in
    let places = c.args.places in
    let more : l.level < level_count = omega arith in
    let front = list-next s l.from level_count l.level (memory_start s) more l.invariant.stand in
    let few : number_at 2 s l.from ≤ places = omega (arith, front.0.few, c.requires.1.1.1) in
    let fits : length l.lists ≡ level_count * places = omega (arith, c.requires.1.1.0) in
    record {
      stand = rw c.list_end-from.ensures front.1;
      left = parts-turn l.lists places s l.from level_count l.level more fits few _ c.read_list.ensures _ c.list_end-from.ensures l.invariant.left;
    }

pub returns : goal.returns
returns c =
    let l = c.loop-level in
    sym (l.invariant.left ∙ parts-done l.lists c.args.places c.args.s.now l.from level_count l.level (omega arith))
