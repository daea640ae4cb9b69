-- `memory_length` meets its contract: the entries end at the length in use.
use native.Mathlib.Omega.{arith}
use Rattle.table.specs.Table.{entries}
use Rattle.saved_write.proofs.Widths.{length-memory}
use Rattle.saved_write.proofs.Pieces.{entries-long, in_place}
use Rattle.saved_write.proofs.lengths.memory_length.Goals as goal

pub overflow_sub-result : goal.overflow_sub-result
overflow_sub-result c =
    omega (arith, entries-long c.args.memory.now c.type_inv.memory c.requires, c.from.ensures, c.length_at.ensures)

pub returns : goal.returns
returns c =
    let s = c.args.memory.now in
    let long = entries-long s c.type_inv.memory c.requires in (
      omega (arith, length-memory (entries s), c.from.ensures, c.length_at.ensures),
      omega (arith, in_place s c.type_inv.memory c.requires, c.from.ensures, c.length_at.ensures),
    )
