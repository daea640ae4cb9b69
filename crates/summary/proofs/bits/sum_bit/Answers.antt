-- `sum_bit` meets its contract: the law of the lanes' sum.
use Rattle.summary.proofs.Folded.{sum_folded}
use Rattle.summary.proofs.bits.sum_bit.Goals as goal

pub returns : goal.returns
returns c = sum_folded c.args.key c.fold.result c.fold.ensures
