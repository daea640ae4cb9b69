-- What the loop of `count_passed` keeps: all that are passed are i and those passed from i on.
use Prim.Native.Nat.{◌+◌}
use mathlib.Core.Path.{◌≡◌}
use mathlib.Core.Option.{some}
use lib.ListN.{drop}
use Rattle.ldc.specs.Store.{Store}
use Rattle.ldc.specs.Tidy as tidy
use Rattle.compact_pick.specs.Due.{Reads}
use Rattle.compact_pick.proofs.choice.count_passed.Given as goal

abbrev pub invariant-loop-i : goal.invariant-loop-i
invariant-loop-i l =
    (s : Store) → Reads s l.area → tidy.passed s (some l.key.value) l.items ≡ l.i + tidy.passed s (some l.key.value) (drop l.i l.items)
