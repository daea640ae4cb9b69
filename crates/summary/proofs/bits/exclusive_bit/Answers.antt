-- `exclusive_bit` meets its contract: the law of the exclusive or by halves and quarters.
use Rattle.std.proofs.Common.{refl}
use Rattle.summary.proofs.Exclusive.{exclusive-folded}
use Rattle.summary.proofs.bits.exclusive_bit.Goals as goal

pub returns : goal.returns
returns c = exclusive-folded c.args.key _ _ refl refl
