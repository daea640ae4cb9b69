-- `is_live` meets its contract: the state says so.
use mathlib.Core.Path.{sym}
use Rattle.book.proofs.Rows.{live_state}
use Rattle.book.proofs.row.is_live.Goals as goal

pub returns : goal.returns
returns c = rw c.state.ensures (sym (live_state _))
