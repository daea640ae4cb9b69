-- `length_good` meets its contract: a law for each way out.
use Rattle.reading.proofs.Bodies.{long, short, neither}
use Rattle.reading.proofs.body.length_good.Goals as goal

pub returns-then-len-eq-MILLIMETRES_END : goal.returns-then-len-eq-MILLIMETRES_END
returns-then-len-eq-MILLIMETRES_END c = cc (long _ c.if-len-eq-MILLIMETRES_END.true, c.get_u16.ensures)

pub returns-then-len-eq-KILOMETRES_END : goal.returns-then-len-eq-KILOMETRES_END
returns-then-len-eq-KILOMETRES_END c = cc (short _ c.if-len-eq-KILOMETRES_END.true, c.get_u16-then-len-eq-KILOMETRES_END.ensures)

pub returns : goal.returns
returns c = neither _ c.if-len-eq-MILLIMETRES_END.false c.if-len-eq-KILOMETRES_END.false
