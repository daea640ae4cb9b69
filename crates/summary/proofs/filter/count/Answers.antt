-- `count` meets its contract: the ones of four words are those of the bytes in them.
use Rattle.summary.proofs.Words.{bits-read}
use Rattle.summary.proofs.filter.count.Goals as goal

pub returns : goal.returns
returns c = bits-read c.args.words.now c.requires (λ i. (c.type_inv.words i).fits)
