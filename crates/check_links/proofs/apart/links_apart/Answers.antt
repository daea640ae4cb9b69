-- `links_apart` meets its contract, test by test.
use Rattle.coding.proofs.KeyLaws.{lt_test}
use Rattle.check_walk.specs.Links.{apart_in}
use Rattle.check_links.proofs.apart.links_apart.Goals as goal

pub returns : goal.returns
unfolding apart_in
returns c = rw (c.lt.ensures, c.lt-2.ensures, lt_test c.args.g.high.value c.args.h.low.value, lt_test c.args.h.high.value c.args.g.low.value)
