-- `end_of` meets its contract: a field that has its bytes among those left ends within them.
use native.Mathlib.Omega.{arith}
use lib.ListN.{length}
use Rattle.saved_form.proofs.Fields.{stands, broken, reach}
use Rattle.saved_form.proofs.field.end_of.Goals as goal

pub overflow_add-result : goal.overflow_add-result
overflow_add-result c = let a = c.args in omega (arith, reach (length a.s.now) a.at a.len a.formed c.requires c.if-formed-len.true, c.well_formed)

pub returns-then-formed-len : goal.returns-then-formed-len
returns-then-formed-len c = let a = c.args in stands (length a.s.now) a.at a.len a.formed c.requires c.if-formed-len.true

pub returns-else-formed-len : goal.returns-else-formed-len
returns-else-formed-len c = let a = c.args in broken (length a.s.now) a.at a.len a.formed c.requires c.if-formed-len.false
