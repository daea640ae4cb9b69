-- `open_at` meets its contract: beyond the list there is none to ask.
use Rattle.std.proofs.Common.{arith}
use Rattle.book.specs.Rows.{shown_by}
use Rattle.read_get.proofs.Opening.{opens-none}
use Rattle.read_get.proofs.Asking.{here, past}
use Rattle.read_get.proofs.level.open_at.Goals as goal

pub returns-then-items-i : goal.returns-then-items-i
returns-then-items-i c =
    let a = c.args in
    rw (past (shown_by a.area.now a.cards.now) a.key.value a.items.now a.i (omega arith))
    (opens-none a.area.now a.cards.now a.key.value _
    record { missed = c.nothing.ensures.0; tables = c.nothing.ensures.1.0; bits = c.nothing.ensures.1.1 })

pub open_sources-requires : goal.open_sources-requires
open_sources-requires c = (c.requires.0, rw c.from.ensures (c.requires.1 c.args.i (omega arith)))

pub returns : goal.returns
returns c =
    let a = c.args in
    rw (here (shown_by a.area.now a.cards.now) a.key.value a.items.now a.i (omega arith), ← c.from.ensures) c.open_sources.ensures
