-- Of the tables asked of levels 1 to 3 those of levels n to 3 are left.
use Rattle.std.proofs.Common.{◌-◌}
use Rattle.ldc.specs.Layout.{level_count}
use Rattle.book.specs.Head.{head_words}
use Rattle.read_get.specs.Opens.{asked_from}
use Rattle.read_get.proofs.Opening.{Left}
use Rattle.read_get.proofs.open_lower.Given as goal

abbrev pub invariant-loop-n : goal.invariant-loop-n
invariant-loop-n l =
    Left l.area l.cards l.key.value (asked_from l.area l.cards l.lists (head_words l.head) l.key.value 3 1)
    (asked_from l.area l.cards l.lists (head_words l.head) l.key.value (level_count - l.n) l.n) l.seen
