-- `write_place` meets its contract: the whole part is written, and comes back as one run of the area.
use Rattle.std.proofs.Common.{arith, ◌≡◌, ◌+◌, ◌-◌, ◌∙◌, length, take, drop}
use Rattle.coding.proofs.Sets.{length_part, sets-all, sets-back}
use Rattle.table.specs.Limits.{place_size}
use Rattle.table_builder.proofs.place.write_place.Goals as goal

pub returns : goal.returns
returns c =
    let a = c.args in
    let e : a.start + place_size - a.start ≡ place_size = omega arith in
    let part : length (take place_size (drop a.start a.area.now)) ≡ place_size = length_part a.area.now a.start place_size c.requires.0 in
    let copied = rw e at c.copy.ensures in
    let whole : c.copy.new.dst ≡ a.table.now = copied ∙ sets-all (take place_size (drop a.start a.area.now)) a.table.now (omega arith) in
    rw (e, whole) (sets-back a.area.now a.start place_size a.table.now c.requires.0 c.requires.1)
