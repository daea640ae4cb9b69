-- `float_interval` meets its contract: a law for each way out.
use Rattle.reading.proofs.Ways.{at_zero, tiny, found, missed}
use Rattle.reading.proofs.interval.float_interval.Goals as goal

pub returns-then-bits-eq0 : goal.returns-then-bits-eq0
returns-then-bits-eq0 c = at_zero _ c.if-bits-eq0.true

pub returns-then-exponent-lt-LEAST_EXPONENT : goal.returns-then-exponent-lt-LEAST_EXPONENT
returns-then-exponent-lt-LEAST_EXPONENT c = tiny _ c.if-bits-eq0.false c.if-exponent-lt-LEAST_EXPONENT.true

pub returns-then-low-high : goal.returns-then-low-high
returns-then-low-high c =
    let l = rw (c.from-quarters.ensures, c.from-odd.ensures) at c.if-low-high.true in
    rw (c.from-quarters.ensures, c.from-odd.ensures) (found _ _ c.if-exponent-lt-LEAST_EXPONENT.false c.quarters_below.ensures l)

pub returns-else-low-high : goal.returns-else-low-high
returns-else-low-high c =
    let l = rw (c.from-quarters.ensures, c.from-odd.ensures) at c.if-low-high.false in
    missed _ _ c.if-exponent-lt-LEAST_EXPONENT.false c.quarters_below.ensures l
