-- The lists left stand in turn, and all is what is written with the parts of those left, from this level's on.
use Rattle.std.proofs.Common.{◌≡◌, ◌*◌, ◌-◌}
use Rattle.std.proofs.Math.Option.{some}
use lib.Seq.{sets}
use Rattle.ldc.specs.Layout.{level_count}
use Rattle.saved_book.specs.Form.{list_to, in_turn, memory_start}
use Rattle.saved_book.specs.Opened.{opened_lists}
use Rattle.saved_read.proofs.Levels.{parts_saved}
use Rattle.saved_read.proofs.lists.read_lists.Given as goal

abbrev pub invariant-loop-level : goal.invariant-loop-level
invariant-loop-level l = record {
  stand : in_turn (level_count - l.level) (list_to l.s) l.from ≡ some (memory_start l.s);
  left : opened_lists l.places l.s ≡ sets l.lists (l.level * l.places) (parts_saved l.places (level_count - l.level) l.s l.from);
}
