-- The loop's invariant: writing the text of all bytes is writing that of those left, from 3 i on.
use Rattle.std.proofs.Common.{◌≡◌, ◌*◌, drop}
use Rattle.std.proofs.lemmas.List.Edits.{sets}
use Rattle.coding.specs.Hex.{bytes_text}
use Rattle.coding.proofs.hex.put_bytes.Given as goal

abbrev pub invariant-loop-i : goal.invariant-loop-i
invariant-loop-i l = sets l.initial.out 0 (bytes_text l.bytes) ≡ sets l.out (3 * l.i) (bytes_text (drop l.i l.bytes))
