-- `bytes_of` meets its contract: the part of the area is the place, and lies in the area.
use mathlib.Core.Path.{◌∙◌, ap}
use lib.ListN.{length}
use Rattle.book.proofs.Area.{place-long, place-part}
use Rattle.book.proofs.place.bytes_of.Goals as goal

pub returns : goal.returns
returns c =
    let area = c.args.area.now in
    let p = c.args.p in
    (place-part area p, ap length (place-part area p) ∙ place-long area p c.requires)
