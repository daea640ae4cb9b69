-- `is_held` meets its contract: the search from the first table that reaches the place's least key on asks all that can hold it.
use Rattle.read.proofs.Rank.{rank-few}
use Rattle.book.specs.Rows.{shown_by}
use Rattle.compact_install.proofs.Seek.{held-front}
use Rattle.compact_install.proofs.release.is_held.Goals as goal

pub is_held_from-requires : goal.is_held_from-requires
is_held_from-requires c =
    (c.requires.0, rw c.count_passed-i.ensures (rank-few (shown_by c.args.area.now c.args.cards.now) _ c.args.items.now))

pub returns : goal.returns
returns c =
    let a = c.args in
    rw (held-front a.area.now a.cards.now a.items.now a.p a.f c.requires.0 c.requires.1, ← c.least.ensures, ← c.count_passed-i.ensures)
    c.is_held_from.ensures
