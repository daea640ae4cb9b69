-- `capacity` meets its contract: a shift by 4 at most loses no bit of a word, so that it is the shift over whole numbers.
use Prim.Native.Nat.{◌*◌}
use native.Mathlib.Omega.{arith}
use borrow.Author.Rules.{rules}
use lib.Pow.{shl_exact}
use Rattle.ldc.specs.Tidy.{capacity}
use Rattle.compact_pick.proofs.level.capacity.Statement.{statement}
use Rattle.compact_pick.proofs.level.capacity.Tie as tie

mul-result : tie.Need-overflow_mul-result
mul-result c = search rules

shl-result : tie.Need-overflow_shl-result
shl-result c = search rules

returns : tie.Need-returns
unfolding capacity
returns c = shl_exact 2 (2 * c.args.n) 64 (omega arith) (omega (arith, c.requires))

pub capacity_spec : {M : Type 1} → statement M
capacity_spec =
    tie.close (tie.spec mul-result shl-result returns)
