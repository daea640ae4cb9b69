-- Putting all entries behind those of `to` is putting what is left of them behind those that are there now.
use Rattle.std.proofs.Common.{◌≡◌, ◌-◌}
use Rattle.table.specs.Table.{entries_at, RoomFor}
use Rattle.table.specs.Search.{position_in}
use Rattle.memtable.specs.Appends.{appends}
use Rattle.memtable.proofs.entries.append_up_to.Given as goal

abbrev pub invariant-loop : goal.invariant-loop
invariant-loop l = record {
  stands : l.at ≡ position_in l.counter l.s;
  room : RoomFor (l.n - l.counter) l.to;
  left : appends (entries_at (l.n - l.fn.from.index) l.s l.fn.from.at) l.initial.to ≡ appends (entries_at (l.n - l.counter) l.s l.at) l.to;
}
