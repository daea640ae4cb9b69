-- The loop of `release`: all the places freed are those from the i-th on, freed in the rows as they are.
use Rattle.std.proofs.Common.{◌≡◌, drop}
use Rattle.compact_install.specs.Release.{freed_in, places_named}
use Rattle.compact_install.proofs.release.release.Given as goal

abbrev pub invariant-loop-i : goal.invariant-loop-i
invariant-loop-i l =
    freed_in l.held (places_named l.row) l.initial.cards ≡ freed_in (drop l.i l.held) (drop l.i (places_named l.row)) l.cards
