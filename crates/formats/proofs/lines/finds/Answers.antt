-- `finds` meets its contract: the table of the two has a least key and a greatest.
use Rattle.formats.proofs.Built.{two_size, two-table}
use Rattle.formats.proofs.lines.finds.Goals as goal

pub least-requires : goal.least-requires
least-requires c = (two_size _ c.requires, two-table _ c.requires)

pub greatest-requires : goal.greatest-requires
greatest-requires c = (two_size _ c.requires, two-table _ c.requires)
