-- The loop of `row_names`: whether a link names the place is whether one from the i-th on does.
use Rattle.std.proofs.Common.{◌≡◌, [], get_or}
use Rattle.compact_install.specs.Release.{row_names}
use Rattle.compact_install.proofs.Freeing.{names_from}
use Rattle.compact_install.proofs.release.row_names.Given as goal

abbrev pub invariant-loop-i : goal.invariant-loop-i
invariant-loop-i l = row_names l.f (get_or l.cards l.q []) ≡ names_from l.i l.f (get_or l.cards l.q [])
