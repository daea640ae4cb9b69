-- `interval_of` meets its contract: a law for each way out. A float that the three tests let through is a number, and its bits without the
-- sign are in range.
use Rattle.std.proofs.Common.{sym, ◌∙◌}
use Rattle.reading.proofs.Range.{tested, not-nan, let-through-le}
use Rattle.reading.proofs.Ways.{millimetres-in, millimetres-out, kilometres-out, kilometres-in}
use Rattle.reading.proofs.interval.interval_of.Goals as goal

pub float_to_bits-x : goal.float_to_bits-x
float_to_bits-x c = let x = c.in-Kilometres.x in not-nan x (sym (tested x) ∙ c.if-x.false)

pub float_interval-requires : goal.float_interval-requires
float_interval-requires c = let x = c.in-Kilometres.x in let-through-le x (sym (tested x) ∙ c.if-x.false)

pub returns-then-m-lt-DISTANCES : goal.returns-then-m-lt-DISTANCES
returns-then-m-lt-DISTANCES c = millimetres-in _ c.in-Millimetres.m c.in-Millimetres.is c.if-m-lt-DISTANCES.true

pub returns-else-m-lt-DISTANCES : goal.returns-else-m-lt-DISTANCES
returns-else-m-lt-DISTANCES c = millimetres-out _ c.in-Millimetres.m c.in-Millimetres.is c.if-m-lt-DISTANCES.false

pub returns-then-x : goal.returns-then-x
returns-then-x c = kilometres-out _ c.in-Kilometres.x c.in-Kilometres.is (sym (tested c.in-Kilometres.x) ∙ c.if-x.true)

pub returns-else-x : goal.returns-else-x
returns-else-x c =
    kilometres-in _ c.in-Kilometres.x _ c.in-Kilometres.is (sym (tested c.in-Kilometres.x) ∙ c.if-x.false) c.float_interval.ensures
