-- There is a list of requests exactly if there is one from the position on.
use Rattle.std.proofs.Common.{◌≡◌, ◌-◌, ◌≤◌, length}
use Rattle.ldc.specs.Lists.{is_some}
use Rattle.ldc.specs.Run.{split}
use Rattle.wire.specs.Rest.{rest}
use Rattle.wire.proofs.list.is_list.Given as goal

abbrev pub invariant-loop-at : goal.invariant-loop-at
invariant-loop-at l = record { within : l.at ≤ length l.list; listed : is_some (split l.list) ≡ is_some (rest l.list l.at) }

abbrev pub decreases-loop-at : goal.decreases-loop-at
decreases-loop-at l = length l.list - l.at
