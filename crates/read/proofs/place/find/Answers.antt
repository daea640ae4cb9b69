-- `find` meets its contract: the bytes are those of the place.
use Rattle.read.proofs.Shows.{place-memory}
use Rattle.read.proofs.place.find.Goals as goal

pub find-requires : goal.find-requires
find-requires c = (c.bytes_of.ensures.1, rw c.bytes_of.ensures.0 (place-memory c.args.area.now c.args.p c.requires))
