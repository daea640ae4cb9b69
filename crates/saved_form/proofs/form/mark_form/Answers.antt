-- `mark_form` meets its contract: its expression is the definition.
use Rattle.ldc.specs.Layout.{mark_good}
use Rattle.saved_form.proofs.form.mark_form.Goals as goal

pub returns : goal.returns
unfolding mark_good
returns c = rw (← c.get_u16-flag.ensures, ← c.get_u64-key.ensures)
