-- `mark` meets its contract: the entry is of the form and fills the slice.
use Rattle.std.proofs.Common.{arith}
use Rattle.formats.proofs.Built.{mark-form, filled-mark}
use Rattle.formats.proofs.examples.mark.Goals as goal

pub put_entry-requires : goal.put_entry-requires
put_entry-requires c = (mark-form, omega (arith, c.requires))

pub returns : goal.returns
returns c = filled-mark c.args.out.now _ c.requires c.put_entry.ensures
