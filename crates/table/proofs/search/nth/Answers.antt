-- `nth` meets its contract: an entry stands where the loop does, and behind it the next.
use Rattle.std.proofs.Common.{sym, ◌∙◌, arith}
use Rattle.table.proofs.Position.{stands_at, position_first, position-after}
use Rattle.table.proofs.Room.{length-within, next_fits}
use Rattle.table.proofs.search.nth.Goals as goal

pub loop-init : goal.loop-init
loop-init c = sym (position_first c.args.s.now)

pub length_at-requires : goal.length_at-requires
length_at-requires c =
    let l = c.loop in
    length-within _ _ c.requires.0.0 (stands_at c.args.s.now c.requires.0.1 l.counter l.at (omega arith) l.invariant)

pub overflow_add-at : goal.overflow_add-at
overflow_add-at c =
    let l = c.loop in
    next_fits _ _ c.requires.0.0 (stands_at c.args.s.now c.requires.0.1 l.counter l.at (omega arith) l.invariant) _
    (c.from-at.ensures ∙ c.length_at.ensures)

pub loop-preserved : goal.loop-preserved
loop-preserved c = position-after _ _ _ _ c.loop.invariant (c.from-at.ensures ∙ c.length_at.ensures)
