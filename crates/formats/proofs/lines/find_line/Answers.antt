-- `find_line` meets its contract: the table of the two may be searched.
use Rattle.formats.proofs.Built.{two_size, two-memory}
use Rattle.formats.proofs.lines.find_line.Goals as goal

pub find-requires : goal.find-requires
find-requires c = (two_size _ c.requires, two-memory _ c.requires)
