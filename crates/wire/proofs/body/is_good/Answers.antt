-- `is_good` meets its contract, kind by kind.
use Rattle.std.proofs.Common.{◌≡◌, arith}
use Rattle.wire.proofs.Bodies.{good-1, good-key, good-4, good_none, good-8, good-zero, good-above}
use Rattle.wire.proofs.body.is_good.Goals.{in-8-1, in_default+then-kind-lt4}
use Rattle.wire.proofs.body.is_good.Goals as goal

pub returns-in-1 : goal.returns-in-1
returns-in-1 c = rw c.in-1.is (good-1 c.args.len)

pub returns-in-4 : goal.returns-in-4
returns-in-4 c = rw c.in-4.is (good-4 c.args.len)

pub returns-in-5-to-7 : goal.returns-in-5-to-7
returns-in-5-to-7 c = good_none c.args.len c.args.kind (omega arith) (omega arith)

pub returns-in-2 : goal.returns-in-2
returns-in-2 c = elim c.in-2-1.branch [
  | in-8-1 w ↦ let e : c.args.kind ≡ 8 = omega arith in rw e (good-8 c.args.len)
  | in_default+then-kind-lt4 w ↦ good-key c.args.len c.args.kind (omega arith) (omega arith)
]

pub returns-in-0 : goal.returns-in-0
returns-in-0 c = let e : c.args.kind ≡ 0 = omega arith in rw e (good-zero c.args.len)

pub returns-in-0-2 : goal.returns-in-0-2
returns-in-0-2 c = good-above c.args.len c.args.kind (omega arith)
