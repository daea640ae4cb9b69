-- All rows free are what is written with those left free, from p on.
use Rattle.std.proofs.Common.{◌≡◌, drop}
use Rattle.std.proofs.lemmas.List.Edits.{sets}
use Rattle.book.specs.Made.{all_free}
use Rattle.store_make.proofs.free_all.Given as goal

abbrev pub invariant-loop-p : goal.invariant-loop-p
invariant-loop-p l = all_free l.initial.cards ≡ sets l.cards l.p (all_free (drop l.p l.cards))
