-- `has_bit` meets its contract: the law of a bit read by shifts and masks.
use Rattle.summary.proofs.Words.{bit-read}
use Rattle.summary.proofs.filter.has_bit.Goals as goal

pub returns : goal.returns
returns c = bit-read c.args.words.now c.args.n
