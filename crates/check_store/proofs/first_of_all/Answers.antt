-- `first_of_all` meets its contract: no store has more places than there is room for.
use Rattle.ldc.specs.Lent.{Lent}
use Rattle.check_places.proofs.RuleLaws.{sized}
use Rattle.std.proofs.Common.{lit≤}
use Rattle.check_store.proofs.first_of_all.Goals as goal

pub first_within-requires-2 : goal.first_within-requires-2
first_within-requires-2 c =
    let a = c.args in
    let m : Lent = record { area = a.area.now; cards = a.cards.now; lists = a.lists.now; head = a.head.now; memory = a.memory.now } in
    record { sized = c.requires; room = (sized m c.requires).most; most = lit≤ tt }
