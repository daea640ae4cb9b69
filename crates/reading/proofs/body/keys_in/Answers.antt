-- `keys_in` meets its contract: a law for each form. A good length has the bytes that each form reads.
use Rattle.std.proofs.Common.{sym, ◌∙◌, arith}
use Rattle.reading.proofs.Bodies.{good-reach, millimetres-reach, in-millimetres, in-kilometres, in-no-form}
use Rattle.reading.proofs.body.keys_in.Goals as goal

pub get_u32-line-requires : goal.get_u32-line-requires
get_u32-line-requires c = omega (arith, good-reach _ c.requires)

pub get_u16-requires : goal.get_u16-requires
get_u16-requires c = omega (arith, good-reach _ c.requires)

pub get_u64-requires : goal.get_u64-requires
get_u64-requires c = millimetres-reach _ c.requires (sym c.get_u16.ensures ∙ c.in-0.is)

pub get_u32-requires : goal.get_u32-requires
get_u32-requires c = good-reach _ c.requires

pub returns-in-0 : goal.returns-in-0
returns-in-0 c =
    cc (
      in-millimetres _ (sym c.get_u16.ensures ∙ c.in-0.is),
      c.keys_of.ensures,
      c.get_u64.ensures,
      c.get_u32-line.ensures,
    )

pub returns-in-1 : goal.returns-in-1
returns-in-1 c =
    cc (
      in-kilometres _ (sym c.get_u16.ensures ∙ c.in-1.is),
      c.keys_of-in-1.ensures,
      c.float_of.ensures,
      c.get_u32.ensures,
      c.get_u32-line.ensures,
    )

pub returns-in_default : goal.returns-in_default
returns-in_default c = in-no-form _ (omega (arith, c.get_u16.ensures))
