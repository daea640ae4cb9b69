-- `holds_key` meets its contract: what the search of the bytes finds is what the entries have.
use Rattle.std.proofs.Common.{◌∙◌}
use Rattle.memtable.proofs.Turn.{sought}
use Rattle.memtable.proofs.entries.holds_key.Goals as goal

pub returns : goal.returns
returns c = c.is_some.ensures ∙ rw c.find.ensures (sought c.args.s.now c.args.key.value)
