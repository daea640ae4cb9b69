-- `sizes` meets its contract: the definition looks at the three lengths alone.
use Rattle.book.proofs.Made.{sizes-by}
use Rattle.book.proofs.sizes.sizes.Goals as goal

pub returns : goal.returns
returns c =
    let a = c.args in
    λ m p q r. sizes-by m a.area a.cards a.lists p q r
