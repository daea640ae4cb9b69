-- `same` meets its contract: four words compared one by one.
use Rattle.std.proofs.Common.{arith}
use Rattle.summary.proofs.Words.{same_read}
use Rattle.summary.proofs.filter.same.Goals as goal

pub returns : goal.returns
returns c = same_read c.args.words.now c.requires c.args.right (omega arith)
