-- `fill_table` meets its contract: the next entry stands whole, there is room for it, and with it one more is written.
use Rattle.std.proofs.Common.{◌+◌, ◌<◌, arith}
use Rattle.table.specs.Limits.{table_limit}
use Rattle.read_gather.proofs.Parts.{part-within, part-at}
use Rattle.compact_merge.proofs.Spots.{spot-seated}
use Rattle.compact_merge.proofs.Fill.{fill-room, fill-turn}
use Rattle.compact_merge.proofs.tables.fill_table.Goals as goal

pub append_from-requires : goal.append_from-requires
append_from-requires c =
    let a = c.args in
    let l = c.loop-spot in
    let i = l.spot-index in
    let s = c.requires.1.1 in
    let within = part-within a.spots.now a.from _ i c.loop-spot-test.true in
    let more : a.from + i < a.n = omega (arith, within, c.min-end.ensures) in
    let few : i < table_limit = omega (arith, within, c.min-end.ensures) in
    let seat = spot-seated a.area.now a.spots.now a.n s (a.from + i) more in (
      fill-room a.area.now a.spots.now a.n a.from i s (omega arith) l.to l.invariant few,
      rw (part-at a.spots.now a.from _ i c.loop-spot-test.true) (seat.form, seat.room),
    )

pub loop-spot-preserved : goal.loop-spot-preserved
loop-spot-preserved c =
    let a = c.args in
    let l = c.loop-spot in
    let i = l.spot-index in
    let within = part-within a.spots.now a.from _ i c.loop-spot-test.true in
    let more : a.from + i < a.n = omega (arith, within, c.min-end.ensures) in
    let few : i < table_limit = omega (arith, within, c.min-end.ensures) in
    fill-turn a.area.now a.spots.now a.n a.from i c.requires.1.1 (omega arith) l.to l.invariant _ _ few more
    (part-at a.spots.now a.from _ i c.loop-spot-test.true) c.append_from.ensures
