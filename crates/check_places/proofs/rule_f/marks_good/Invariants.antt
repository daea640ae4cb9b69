-- `marks_good` meets its contract. The loop's invariant: all marks are good if those from p on are.
use Prim.Native.Nat.{◌-◌}
use mathlib.Core.Path.{◌≡◌}
use lib.ListN.{length}
use Rattle.ldc.specs.Lists.{all_from}
use Rattle.check_places.specs.Links.{mark_fits, marks_fit}
use Rattle.check_places.proofs.rule_f.marks_good.Given as goal

abbrev pub invariant-loop-p : goal.invariant-loop-p
invariant-loop-p l = marks_fit l.cards l.marks ≡ all_from (length l.cards - l.p) l.p (mark_fits l.cards l.marks)
