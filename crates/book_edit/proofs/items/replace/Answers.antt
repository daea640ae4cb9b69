-- `replace` meets its contract: room is made and the items are laid there; by none, the item is taken out.
use Rattle.book.proofs.Levels.{laid-over, closed-up}
use Rattle.book_edit.proofs.items.replace.Goals as goal

pub returns-then-k-eq0 : goal.returns-then-k-eq0
returns-then-k-eq0 c =
    let a = c.args in
    closed-up a.items.now a.part.now c.copy_within.new.self c.copy_from_slice.new.self a.n a.i c.requires.0 c.requires.1.0 c.requires.1.1
    c.copy_within.ensures.after c.copy_from_slice.ensures.after c.if-k-eq0.true

pub returns-else-k-eq0 : goal.returns-else-k-eq0
returns-else-k-eq0 c =
    let a = c.args in
    laid-over a.items.now a.part.now c.copy_within.new.self c.copy_from_slice.new.self a.n a.i c.requires.0 c.requires.1.0 c.requires.1.1
    c.copy_within.ensures.after c.copy_from_slice.ensures.after c.if-k-eq0.false
