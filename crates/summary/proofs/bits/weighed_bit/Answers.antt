-- `weighed_bit` meets its contract: the law of the lanes' weighed sum.
use Rattle.std.proofs.Common.{refl}
use Rattle.summary.proofs.Folded.{weighed-folded}
use Rattle.summary.proofs.bits.weighed_bit.Goals as goal

pub returns : goal.returns
returns c = weighed-folded c.args.key _ c.fold.result refl c.fold.ensures
