-- `copy_values` meets its contract: a turn writes the entry at its spot behind the others.
use Rattle.std.proofs.Common.{◌≡◌, ◌++◌, map, take, get_or, arith}
use lib.ListN.{length-map, get_or-map}
use lib.Seq.{length-take-le}
use Rattle.table.specs.Entry.{entry_at}
use Rattle.read_gather.proofs.Means.{seated-get}
use Rattle.serve_read.proofs.Fills.{fills-none, fills_one}
use Rattle.serve_read.proofs.scan.copy_values.Goals as goal

pub loop-at-init : goal.loop-at-init
loop-at-init c =
    let a = c.args in
    (omega arith, fills-none (map (entry_at (a.area.now ++ a.memory.now)) (take a.n a.spots.now)) a.start a.answer.now)

pub copy_entry-end-requires : goal.copy_entry-end-requires
copy_entry-end-requires c =
    let a = c.args in
    let l = c.loop-at in
    let few = length-take-le a.n a.spots.now c.requires.1.1.0 in
    let i = c.loop-at-test.true in
    (c.requires.0, (seated-get _ (take a.n a.spots.now) l.at-index c.requires.1.0 (omega arith), omega (arith, c.requires.1.1.1)))

pub loop-at-preserved : goal.loop-at-preserved
loop-at-preserved c =
    let a = c.args in
    let l = c.loop-at in
    let x = c.copy_entry-end in
    let f = entry_at (a.area.now ++ a.memory.now) in
    let items = take a.n a.spots.now in
    let few = length-take-le a.n a.spots.now c.requires.1.1.0 in
    let i = c.loop-at-test.true in
    let here : get_or (map f items) l.at-index (f 0) ≡ f (get_or items l.at-index 0) = get_or-map f items l.at-index 0 in (
      omega (arith, x.ensures.1.1),
      fills_one (map f items) a.start a.answer.now l.at-index (f 0) l.answer x.new.answer l.end x.result
          (omega (arith, length-map items f)) l.invariant.1 (rw here x.ensures.0) (rw here x.ensures.1.0),
    )
