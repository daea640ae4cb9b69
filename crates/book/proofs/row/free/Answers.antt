-- `free` meets its contract: zeros are the row of a free place.
use mathlib.Core.Path.{ap}
use lib.ListN.{set}
use Rattle.table.specs.Table.{zeros}
use Rattle.book.proofs.Rows.{free-row}
use Rattle.book.proofs.row.free.Goals as goal

pub returns : goal.returns
unfolding zeros
returns c = ap (set c.args.cards.now c.args.p) free-row
