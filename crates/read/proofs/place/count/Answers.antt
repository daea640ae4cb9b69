-- `count` meets its contract: a place shows as many entries as it says.
use Rattle.std.proofs.Common.{sym, ◌∙◌}
use Rattle.table.specs.Table.{place_of}
use Rattle.table.proofs.Entries.{length-entries}
use Rattle.read.proofs.place.count.Goals as goal

pub returns : goal.returns
returns c = c.count.ensures ∙ rw c.bytes_of.ensures.0 (sym (length-entries (place_of c.args.area.now c.args.p)))
