-- `seek` meets its contract: the bytes are those of the place.
use Rattle.read.proofs.Shows.{place-memory}
use Rattle.read.proofs.place.seek.Goals as goal

pub seek-requires : goal.seek-requires
seek-requires c = (c.bytes_of.ensures.1, rw c.bytes_of.ensures.0 (place-memory c.args.area.now c.args.p c.requires))
