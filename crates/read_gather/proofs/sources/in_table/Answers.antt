-- `in_table` meets its contract: the bytes are those of the place, which stand where its number says.
use Rattle.std.proofs.Common.{◌*◌, arith}
use Rattle.table.specs.Limits.{place_size}
use Rattle.read.proofs.Shows.{place-memory}
use Rattle.read_gather.proofs.Steps.{one-taken}
use Rattle.read_gather.proofs.sources.in_table.Goals as goal

pub take_in-requires : goal.take_in-requires
take_in-requires c =
    let t = c.requires.0 in
    ((c.bytes_of.ensures.1, rw c.bytes_of.ensures.0 (place-memory c.args.area.now c.args.p t)), (omega (arith, t.within), c.requires.1))

pub returns : goal.returns
returns c =
    let a = c.args in
    one-taken a.area.now (a.p * place_size) a.low.value a.high.value a.keys.now a.spots.now a.n _ _ _ c.requires.0.within (omega arith)
    (rw c.bytes_of.ensures.0 at c.take_in.ensures)
