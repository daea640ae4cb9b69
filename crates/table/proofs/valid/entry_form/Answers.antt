-- `entry_form` meets its contract, by cases of whether it is a value's kind.
use Rattle.std.proofs.Common.{sym}
use mathlib.Core.Bool.{or-false}
use borrow.Author.Tests.{ne_eqb}
use Rattle.table.specs.Entry.{entry_form}
use Rattle.table.proofs.valid.entry_form.Goals as goal

pub returns-then-kind-eq-VALUE : goal.returns-then-kind-eq-VALUE
unfolding entry_form
returns-then-kind-eq-VALUE c = rw c.if-kind-eq-VALUE.true (sym (or-false _))

pub returns : goal.returns
unfolding entry_form
returns c = rw (ne_eqb _ 1 c.if-kind-eq-VALUE.false)
