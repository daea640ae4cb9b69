-- `copy` meets its contract: the part that was written comes back as one run of the whole.
use Rattle.std.proofs.Common.{◌≡◌, ◌+◌, ◌-◌, length, refl, arith}
use Rattle.coding.proofs.Sets.{sets-back}
use Rattle.table_builder.proofs.place.copy.Goals as goal

pub returns : goal.returns
returns c =
    let at = c.args.at in
    let src = c.args.src.now in
    let e : at + length src - at ≡ length src = omega arith in
    rw (e, c.copy_from_slice.ensures.after) (sets-back c.args.dst.now at (length src) src c.requires refl)
