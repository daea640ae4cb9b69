-- `rest_zero` meets its contract: a turn takes one byte more into account, and at the end none is left.
use Rattle.table.proofs.Turn.{zero_turn, zero-end}
use Rattle.table.proofs.valid.rest_zero.Goals as goal

pub loop-i-preserved : goal.loop-i-preserved
loop-i-preserved c = zero_turn _ _ _ _ c.loop-i-test.true c.loop-i.invariant

pub returns : goal.returns
returns c = zero-end _ _ _ _ c.loop-i-test.false c.loop-i.invariant
