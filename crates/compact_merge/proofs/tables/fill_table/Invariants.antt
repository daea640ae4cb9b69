-- The first of what is left are written.
use Rattle.std.proofs.Common.{◌≡◌, take, drop}
use Rattle.table.specs.Table.{table_bytes}
use Rattle.compact_merge.specs.Spots.{standing}
use Rattle.compact_merge.proofs.tables.fill_table.Given as goal

abbrev pub invariant-loop-spot : goal.invariant-loop-spot
invariant-loop-spot l = l.to ≡ table_bytes (take l.spot-index (drop l.from (standing l.area l.spots l.n)))
