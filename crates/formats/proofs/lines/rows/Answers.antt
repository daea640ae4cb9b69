-- `rows` meets its contract: the table of the two has the length of a place.
use Rattle.std.proofs.Common.{arith}
use Rattle.formats.proofs.Built.{two_size}
use Rattle.formats.proofs.lines.rows.Goals as goal

pub row_line-requires : goal.row_line-requires
row_line-requires c = omega (arith, two_size c.args.place.now c.requires)

pub row_line-requires-2 : goal.row_line-requires-2
row_line-requires-2 c = omega (arith, two_size c.args.place.now c.requires)

pub row_line-requires-3 : goal.row_line-requires-3
row_line-requires-3 c = omega (arith, two_size c.args.place.now c.requires)
