-- `first_free` meets its contract: what is sought is this place, if it is free, and else comes after it.
use Rattle.std.proofs.Common.{◌≡◌, ◌-◌, [], true, false, sym, ◌∙◌, length, get_or, arith}
use Rattle.ldc.proofs.Stores.Places.{next-below}
use Rattle.book.specs.Place.{free_row, free_at}
use Rattle.book.proofs.Free.{free-turn}
use Rattle.book_places.proofs.free.first_free.Goals as goal

pub returns-then-is_free : goal.returns-then-is_free
returns-then-is_free c =
    let l = c.loop in
    let rows = c.args.cards.now in
    let here : free_row (get_or rows l.p []) ≡ true = sym c.is_free.ensures ∙ c.if-is_free.true in
    sym (l.invariant.sought ∙ free-turn rows (length rows) l.counter l.p (omega arith) ∙ rw here)

pub loop-preserved : goal.loop-preserved
loop-preserved c =
    let l = c.loop in
    let rows = c.args.cards.now in
    let taken : free_row (get_or rows l.p []) ≡ false = sym c.is_free.ensures ∙ c.if-is_free.false in
    record {
      within = rw c.next-p.ensures (next-below (length rows) l.p l.invariant.within);
      sought = l.invariant.sought ∙ free-turn rows (length rows) l.counter l.p (omega arith) ∙ rw (taken, c.next-p.ensures);
    }

pub returns : goal.returns
unfolding free_at
returns c =
    let e : length c.args.cards.now - c.loop.counter ≡ 0 = omega arith in
    sym (rw e at c.loop.invariant.sought)
