-- `make_live` meets its contract: a state and zeros.
use mathlib.Core.Path.{ap}
use lib.ListN.{set}
use Rattle.table.specs.Table.{zeros}
use Rattle.book.proofs.Rows.{live-row}
use Rattle.book.proofs.row.make_live.Goals as goal

pub returns : goal.returns
unfolding zeros
returns c = ap (set c.args.cards.now c.args.p) live-row
