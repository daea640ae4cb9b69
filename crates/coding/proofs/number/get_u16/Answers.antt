-- `get_u16` meets its contract: a number of two bytes fits 16 bits.
use lib.Dec.{lit≤}
use Rattle.coding.proofs.NumberLaws.{number_at-below}
use Rattle.coding.proofs.number.get_u16.Goals as goal

pub overflow_cast-result : goal.overflow_cast-result
overflow_cast-result c =
    record { fits = rw c.get.ensures (number_at-below _ 2 c.args.s.now _ (lit≤ tt) (λ i. (c.type_inv.s i).fits)) }
