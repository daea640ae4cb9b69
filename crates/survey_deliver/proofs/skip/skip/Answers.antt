-- `skip` meets its contract: each request passed is as long as it says, and lies within the list.
use Rattle.std.proofs.Common.{arith, ◌≡◌, ◌+◌, ◌-◌, ◌∙◌}
use Rattle.survey_deliver.proofs.Behind.{passed_start, passed-fits, passed-turn, passed-end}
use Rattle.survey_deliver.proofs.skip.skip.Goals as goal

pub loop-init : goal.loop-init
loop-init c =
    let all : c.args.count - 0 ≡ c.args.count = omega arith in
    rw all (passed_start c.args.list.now c.args.count c.requires)

pub length_at-requires : goal.length_at-requires
length_at-requires c = omega (arith, (passed-fits c.loop.invariant (omega arith)).0)

pub overflow_add-at : goal.overflow_add-at
overflow_add-at c = omega (arith, (passed-fits c.loop.invariant (omega arith)).1.1)

pub loop-preserved : goal.loop-preserved
loop-preserved c =
    let one : c.args.count - c.loop.counter - 1 ≡ c.args.count - (c.loop.counter + 1) = omega arith in
    rw one at (passed-turn c.loop.invariant (omega arith) c.from-at.result (c.from-at.ensures ∙ c.length_at.ensures))

pub returns : goal.returns
returns c = passed-end c.loop.invariant (omega arith)
