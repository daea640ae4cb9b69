-- `least` meets its contract: the first entry stands behind the head.
use Rattle.std.proofs.Common.{sym, ◌∙◌}
use Rattle.table.proofs.Entries.{least_at}
use Rattle.table.proofs.search.least.Goals as goal

pub returns : goal.returns
returns c = c.key_at.ensures ∙ sym (least_at c.args.s.now c.requires.1)
