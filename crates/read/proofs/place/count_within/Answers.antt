-- `count_within` meets its contract: the bytes are those of the place, and what is counted is what lies in the range.
use Rattle.std.proofs.Common.{◌∙◌}
use Rattle.table.specs.Table.{entries, place_of}
use Rattle.ldc.proofs.Entries.Few.{count-within}
use Rattle.read.proofs.Shows.{place-memory}
use Rattle.read.proofs.place.count_within.Goals as goal

pub count_within-requires : goal.count_within-requires
count_within-requires c = (c.bytes_of.ensures.1, rw c.bytes_of.ensures.0 (place-memory c.args.area.now c.args.p c.requires))

pub returns : goal.returns
returns c =
    let a = c.args in
    c.count_within.ensures ∙ rw c.bytes_of.ensures.0 (count-within a.low.value a.high.value (entries (place_of a.area.now a.p)))
