-- `is_free` meets its contract: a state that is neither live nor frozen.
use mathlib.Core.Path.{sym}
use Rattle.book.proofs.Rows.{free-state}
use Rattle.book.proofs.row.is_free.Goals as goal

pub returns : goal.returns
returns c = rw c.state-s.ensures (sym (free-state _))
