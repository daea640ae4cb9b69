-- Writing all numbers is writing those from i on.
use Rattle.std.proofs.Common.{◌≡◌, ◌+◌, ◌*◌, drop}
use Rattle.std.proofs.lemmas.List.Edits.{sets}
use Rattle.wire.specs.Reply.{numbers}
use Rattle.wire.proofs.reply.put_numbers.Given as goal

abbrev pub invariant-loop-i : goal.invariant-loop-i
invariant-loop-i l = sets l.initial.answer l.at (numbers l.ns) ≡ sets l.answer (l.at + 2 * l.i) (numbers (drop l.i l.ns))
