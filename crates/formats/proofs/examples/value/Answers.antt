-- `value` meets its contract: the entry is of the form and fills the slice.
use Rattle.std.proofs.Common.{arith}
use Rattle.formats.proofs.Built.{a-form, filled-value}
use Rattle.formats.proofs.examples.value.Goals as goal

pub put_entry-requires : goal.put_entry-requires
put_entry-requires c = (a-form, omega (arith, c.requires))

pub returns : goal.returns
returns c = filled-value c.args.out.now _ c.requires c.put_entry.ensures
