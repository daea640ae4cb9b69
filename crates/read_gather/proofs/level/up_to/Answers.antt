-- `up_to` meets its contract: the last key in use, where there is no room for more.
use Rattle.std.proofs.Common.{◌≡◌, ◌-◌, ◌∙◌, min, get_or, lt-ltb, le-ltb}
use Rattle.read.proofs.Keys.{min_value}
use Rattle.read_gather.specs.Order.{up_to}
use Rattle.read_gather.proofs.level.up_to.Goals as goal

pub returns-then-n-keys : goal.returns-then-n-keys
unfolding up_to
returns-then-n-keys c = rw (lt-ltb _ _ c.if-n-keys.true)

pub returns : goal.returns
unfolding up_to
returns c =
    let a = c.args in
    let e : c.min.result.value ≡ min a.high.value (get_or a.keys.now (a.n - 1) 0) = rw c.min.ensures (min_value _ _) in
    e ∙ rw (le-ltb _ _ c.if-n-keys.false)
