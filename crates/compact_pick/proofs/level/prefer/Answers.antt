-- `prefer` meets its contract: the two products, which are small, compared.
use Prim.Native.Nat.{ℕ, ◌*◌}
use mathlib.Core.Path.{ap}
use native.Mathlib.Omega.{arith}
use Rattle.ldc.specs.Layout.{length_in}
use Rattle.book.specs.Head.{head_words}
use Rattle.book.specs.Place.{the_index}
use Rattle.compact_pick.proofs.Fullest.{product-fits, prefer-second, prefer-first, below-some}
use Rattle.compact_pick.proofs.level.prefer.Goals as goal

pub overflow_mul-length_of : goal.overflow_mul-length_of
overflow_mul-length_of c =
    let near = below-some c.args.other c.requires.other-level c.in-Some.m (ap the_index c.in-Some.is) in
    let short = c.requires.short c.args.n (omega arith) in
    omega (
      arith,
      product-fits c.length_of.result c.in-Some.m (rw c.length_of.ensures short) near,
      ap (λ (k : ℕ). c.length_of.result * k) c.capacity.ensures,
    )

pub overflow_mul-length_of-2 : goal.overflow_mul-length_of-2
overflow_mul-length_of-2 c =
    let near = below-some c.args.other c.requires.other-level c.in-Some.m (ap the_index c.in-Some.is) in
    let short = c.requires.short c.in-Some.m (omega (arith, near)) in
    omega (
      arith,
      product-fits c.length_of-2.result c.args.n (rw c.length_of-2.ensures short) c.requires.level,
      ap (λ (k : ℕ). c.length_of-2.result * k) c.capacity-2.ensures,
    )

pub returns-then-length_of-capacity : goal.returns-then-length_of-capacity
returns-then-length_of-capacity c =
    rw c.in-Some.is
    (prefer-second (length_in (head_words c.args.head)) c.args.n c.in-Some.m _ _ _ _
    c.length_of.ensures c.capacity.ensures c.length_of-2.ensures c.capacity-2.ensures c.if-length_of-capacity.true)

pub returns-else-length_of-capacity : goal.returns-else-length_of-capacity
returns-else-length_of-capacity c =
    rw c.in-Some.is
    (prefer-first (length_in (head_words c.args.head)) c.args.n c.in-Some.m _ _ _ _
    c.length_of.ensures c.capacity.ensures c.length_of-2.ensures c.capacity-2.ensures c.if-length_of-capacity.false)
