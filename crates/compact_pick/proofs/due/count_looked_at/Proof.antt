-- `count_looked_at` meets its contract: the test of the code is that of the definition.
use mathlib.Core.Path.{◌∙◌}
use native.Mathlib.Omega.{arith}
use Rattle.compact_pick.specs.Calm.{looked_at}
use Rattle.compact_pick.proofs.due.count_looked_at.Statement.{statement}
use Rattle.compact_pick.proofs.due.count_looked_at.Tie as tie

returns : tie.Need-returns-then-suspect-n
unfolding looked_at
returns c = rw c.if-suspect-n.true

length-of-requires : tie.Need-length_of-requires
length-of-requires c κs = omega arith

returns-2 : tie.Need-returns
unfolding looked_at
returns-2 c = c.length_of.ensures ∙ rw c.if-suspect-n.false

pub count_looked_at_spec : {M : Type 1} → statement M
count_looked_at_spec =
    tie.close (tie.spec returns length-of-requires returns-2)
