-- `is_frozen` meets its contract: the state says so.
use mathlib.Core.Path.{sym}
use Rattle.book.proofs.Rows.{frozen-state}
use Rattle.book.proofs.row.is_frozen.Goals as goal

pub returns : goal.returns
returns c = rw c.state.ensures (sym (frozen-state _))
