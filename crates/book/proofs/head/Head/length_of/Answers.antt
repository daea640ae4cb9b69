-- `length_of` meets its contract level by level; at level 1 the length's place is named.
use Rattle.book.proofs.head.Head.length_of.Goals as goal

pub returns-in-1 : goal.returns-in-1
returns-in-1 c = rw c.in-1.is
