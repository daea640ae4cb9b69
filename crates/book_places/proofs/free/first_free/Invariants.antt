-- What is sought from the start on is what is sought from p on, in as many places fewer as were passed.
use Rattle.std.proofs.Common.{◌≡◌, ◌-◌, ◌<◌, length}
use Rattle.book.specs.Place.{free_at}
use Rattle.book_places.proofs.free.first_free.Given as goal

abbrev pub invariant-loop : goal.invariant-loop
invariant-loop l = record {
  within : l.p < length l.cards;
  sought : free_at (length l.cards) l.cards l.from ≡ free_at (length l.cards - l.counter) l.cards l.p;
}
