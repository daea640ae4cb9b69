-- The part is what is written with the items left, from the i-th on.
use Rattle.std.proofs.Common.{◌≡◌, ◌+◌, ◌*◌, ◌-◌, length}
use lib.Seq.{sets}
use Rattle.saved_book.specs.Opened.{items_saved}
use Rattle.saved_read.proofs.lists.read_items.Given as goal

abbrev pub invariant-loop-i : goal.invariant-loop-i
invariant-loop-i l = items_saved (length l.part) l.s l.at ≡ sets l.part l.i (items_saved (length l.part - l.i) l.s (l.at + 2 * l.i))
