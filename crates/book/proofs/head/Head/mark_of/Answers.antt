-- `mark_of` meets its contract: levels 1 and 2 by their words, the others have no mark.
use mathlib.Core.Path.{sym}
use native.Mathlib.Omega.{arith}
use Rattle.book.proofs.Heads.{mark-none}
use Rattle.book.proofs.head.Head.mark_of.Goals as goal

pub returns-in_default : goal.returns-in_default
returns-in_default c = sym (mark-none _ c.args.level (λ e. omega arith) (λ e. omega arith))
