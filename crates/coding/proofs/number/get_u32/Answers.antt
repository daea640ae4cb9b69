-- `get_u32` meets its contract: a number of four bytes fits 32 bits.
use lib.Dec.{lit≤}
use Rattle.coding.proofs.NumberLaws.{number_at-below}
use Rattle.coding.proofs.number.get_u32.Goals as goal

pub overflow_cast-result : goal.overflow_cast-result
overflow_cast-result c =
    record { fits = rw c.get.ensures (number_at-below _ 4 c.args.s.now _ (lit≤ tt) (λ i. (c.type_inv.s i).fits)) }
