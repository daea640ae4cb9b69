-- `float_of` meets its contract: bits above infinity's are not a number, and so is 0 / 0.
use Rattle.std.proofs.Common.{sym, ◌∙◌}
use Rattle.reading.proofs.Floats.{nan-of, nan-free, nan-made}
use Rattle.reading.proofs.float.float_of.Goals as goal

pub returns-then-bits-gt-INFINITY : goal.returns-then-bits-gt-INFINITY
returns-then-bits-gt-INFINITY c = nan-made ∙ sym (nan-of c.args.bits c.if-bits-gt-INFINITY.true)

pub float_from_bits-result : goal.float_from_bits-result
float_from_bits-result c = nan-free c.args.bits c.if-bits-gt-INFINITY.false
