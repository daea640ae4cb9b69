-- `is_value` meets its contract: the kind is read in the spot's place, or in the memory table.
use mathlib.Core.Path.{◌∙◌}
use borrow.Author.Rules.{rules}
use Rattle.read_iterator.proofs.Places.{in_area, in_memory, spot-within, value_there}
use Rattle.read_iterator.proofs.spot.is_value.Statement.{statement}
use Rattle.read_iterator.proofs.spot.is_value.Tie as tie

bytes-of-requires : tie.Need-bytes_of-requires
bytes-of-requires c κs = search rules

kind-at-requires : tie.Need-kind_at-requires
kind-at-requires c κs = search rules

returns : tie.Need-returns-then-spot-area
returns c =
    let b = c in
    let a = b.args in
    value_there _ a.spot b.requires.1 c.bytes_of.result.now
    (c.bytes_of.ensures.0 ∙ in_area a.area.now a.memory.now b.requires.0 a.spot c.if-spot-area.true) _ c.kind_at.ensures

kind-at-requires-2 : tie.Need-kind_at-requires-2
kind-at-requires-2 c κs = search rules

returns-2 : tie.Need-returns
returns-2 c =
    let b = c in
    let a = b.args in
    value_there _ a.spot b.requires.1 a.memory.now
    (in_memory a.area.now a.memory.now b.requires.0 a.spot c.if-spot-area.false (spot-within a.area.now a.memory.now b.requires.0 a.spot b.requires.1)) _ c.kind_at-2.ensures

pub is_value_spec : {M : Type 1} → statement M
is_value_spec =
    tie.close (tie.spec bytes-of-requires kind-at-requires returns kind-at-requires-2 returns-2)
