-- `put_memory` meets its contract: count and entries, which stand in the table behind its head.
use Prim.Native.Nat.{◌+◌, ◌-◌}
use mathlib.Core.Path.{sym, ◌∙◌, ap}
use native.Mathlib.Omega.{arith}
use Rattle.coding.proofs.Sets.{length_part}
use Rattle.table.specs.Limits.{table_head}
use Rattle.table.specs.Table.{entries}
use Rattle.saved_write.proofs.Widths.{length-memory}
use Rattle.saved_write.proofs.Puts.{put_then, put_as}
use Rattle.saved_write.proofs.Pieces.{entries-long, memory-put, in_place}
use Rattle.saved_write.proofs.memory.put_memory.Goals as goal

pub put_number-start-requires : goal.put_number-start-requires
put_number-start-requires c =
    let s = c.args.memory.now in
    omega (arith, c.requires.1, length-memory (entries s))

pub slice_bounds-copy-count : goal.slice_bounds-copy-count
slice_bounds-copy-count c =
    let s = c.args.memory.now in
    omega (arith, entries-long s c.type_inv.memory c.requires.0, c.from-end.ensures, c.length_at.ensures)

pub slice_bounds-copy-start : goal.slice_bounds-copy-start
slice_bounds-copy-start c =
    let s = c.args.memory.now in
    omega (arith, entries-long s c.type_inv.memory c.requires.0, c.from-end.ensures, c.length_at.ensures)

pub slice_bounds-copy-end : goal.slice_bounds-copy-end
slice_bounds-copy-end c =
    let s = c.args.memory.now in
    omega (arith, in_place s c.type_inv.memory c.requires.0, c.requires.0.0, c.from-end.ensures, c.length_at.ensures)

pub copy-requires : goal.copy-requires
copy-requires c =
    let s = c.args.memory.now in
    let long = entries-long s c.type_inv.memory c.requires.0 in
    let within = in_place s c.type_inv.memory c.requires.0 in
    let n = length_part s table_head (c.from-end.result - table_head) (omega (arith, c.requires.0.0, c.from-end.ensures, c.length_at.ensures)) in
    omega (arith, c.requires.1, length-memory (entries s), c.from-end.ensures, c.length_at.ensures, c.put_number-start.ensures.1)

pub overflow_sub-result : goal.overflow_sub-result
overflow_sub-result c =
    let s = c.args.memory.now in
    omega (arith, entries-long s c.type_inv.memory c.requires.0, c.from-end.ensures, c.length_at.ensures)

pub overflow_add-result : goal.overflow_add-result
overflow_add-result c =
    let s = c.args.memory.now in
    let long = entries-long s c.type_inv.memory c.requires.0 in
    let within = in_place s c.type_inv.memory c.requires.0 in
    omega (arith, c.requires.1, length-memory (entries s), c.from-end.ensures, c.length_at.ensures, c.put_number-start.ensures.1)

pub returns : goal.returns
returns c =
    let s = c.args.memory.now in
    let e = c.from-end.ensures ∙ c.length_at.ensures in
    let long = entries-long s c.type_inv.memory c.requires.0 in
    let within = in_place s c.type_inv.memory c.requires.0 in
    let n = length_part s table_head (c.from-end.result - table_head) (omega (arith, c.requires.0.0, e)) in
    put_as
    (put_then c.put_number-start.ensures.0
    record {
      written = c.copy.ensures;
      behind = ap (λ n. c.put_number-start.result + n) (sym n);
    })
    (memory-put s c.type_inv.memory c.requires.0 c.count.ensures e)
