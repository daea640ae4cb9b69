-- The loop's invariant: writing all of `n` is writing what is left of it, from i on.
use Rattle.std.proofs.Common.{◌≡◌, ◌+◌, ◌-◌}
use Rattle.std.proofs.lemmas.List.Edits.{sets}
use Rattle.coding.specs.Number.{bytes_of}
use Rattle.coding.proofs.number.put.Given as goal

abbrev pub invariant-loop-i : goal.invariant-loop-i
invariant-loop-i l = sets l.initial.s l.at (bytes_of l.width l.n) ≡ sets l.s (l.at + l.i) (bytes_of (l.width - l.i) l.rest)
