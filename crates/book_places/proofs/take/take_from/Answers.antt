-- `take_from` meets its contract: a place is found, for one is free, and it is one of the rows', so that it becomes live.
use Rattle.std.proofs.Common.{◌≡◌, length, sym, ◌∙◌, arith}
use Rattle.std.specs.Prelude.{Some}
use Rattle.book.specs.Place.{free_at}
use Rattle.book.proofs.Free.{found-free, found-some}
use Rattle.book_places.proofs.take.take_from.Goals as goal

pub unwrap-p-requires : goal.unwrap-p-requires
unwrap-p-requires c = rw c.first_free.ensures (found-some c.args.cards.now c.args.cursor c.requires.0 c.requires.1)

pub make_live-requires : goal.make_live-requires
make_live-requires c =
    let rows = c.args.cards.now in
    let found : free_at (length rows) rows c.args.cursor ≡ Some c.unwrap-p.result = sym c.first_free.ensures ∙ c.unwrap-p.ensures in
    (found-free rows (length rows) c.args.cursor _ c.requires.0 found).0

pub next-requires : goal.next-requires
next-requires c =
    let rows = c.args.cards.now in
    let found : free_at (length rows) rows c.args.cursor ≡ Some c.unwrap-p.result = sym c.first_free.ensures ∙ c.unwrap-p.ensures in
    omega (arith, (found-free rows (length rows) c.args.cursor _ c.requires.0 found).0)
