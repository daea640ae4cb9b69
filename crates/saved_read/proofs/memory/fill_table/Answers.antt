-- `fill_table` meets its contract: over an empty table, the bytes of the entries, the length in use and the count.
use Rattle.std.proofs.Common.{◌+◌, ◌-◌, refl, arith, length}
use Rattle.coding.specs.Number.{Bytes}
use Rattle.coding.proofs.Sets.{length_part}
use Rattle.saved_book.proofs.Forms.{form-parts}
use Rattle.saved_read.proofs.Table.{memory_fits, memory-written}
use Rattle.saved_read.proofs.memory.fill_table.Goals as goal

pub get_u16-n-requires : goal.get_u16-n-requires
get_u16-n-requires c = omega (arith, memory_fits c.args.s.now c.args.at c.requires.0 c.requires.1.0)

pub overflow_add-start : goal.overflow_add-start
overflow_add-start c = omega (arith, memory_fits c.args.s.now c.args.at c.requires.0 c.requires.1.0)

pub slice_bounds-copy-count : goal.slice_bounds-copy-count
slice_bounds-copy-count c = omega (arith, memory_fits c.args.s.now c.args.at c.requires.0 c.requires.1.0)

pub slice_bounds-copy-start : goal.slice_bounds-copy-start
slice_bounds-copy-start c = omega (arith, memory_fits c.args.s.now c.args.at c.requires.0 c.requires.1.0)

pub copy-requires : goal.copy-requires
copy-requires c =
    let s = c.args.s.now in
    let from = c.args.at + 2 in
    let fits = memory_fits s c.args.at c.requires.0 c.requires.1.0 in
    let part = length_part s from (length s - from) (omega arith) in
    omega arith

pub returns : goal.returns
returns c =
    let s = c.args.s.now in
    let bytes : Bytes s = λ i. omega (arith, c.type_inv.s i) in
    memory-written s _ _ _ _ c.args.at (c.args.at + 2) _ bytes (form-parts s c.requires.0) c.requires.1.0 refl c.get_u16-n.ensures
    c.clear.ensures c.copy.ensures c.put_u16.ensures c.put_u16-2.ensures
