-- `add_key` meets its contract: three bits set, each below 256.
use Rattle.summary.proofs.Places.{exclusive-below, sum_below, weighed-below}
use Rattle.summary.proofs.filter.add_key.Goals as goal

pub set_bit-requires : goal.set_bit-requires
set_bit-requires c = rw c.bits_of-three.ensures.0 (exclusive-below _)

pub set_bit-requires-2 : goal.set_bit-requires-2
set_bit-requires-2 c = rw c.bits_of-three.ensures.1.0 (sum_below _)

pub set_bit-requires-3 : goal.set_bit-requires-3
set_bit-requires-3 c = rw c.bits_of-three.ensures.1.1 (weighed-below _)
