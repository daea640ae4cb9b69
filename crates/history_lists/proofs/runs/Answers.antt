-- `runs` meets its contract: run k is ready exactly if both tests say so.
use Rattle.std.proofs.Common.{arith, ◌∙◌}
use borrow.Author.Count.{below_more}
use Rattle.history_lists.proofs.Starts.{ready-full, ready-test}
use Rattle.history_lists.proofs.runs.Goals as goal

pub returns-then-not-is_good : goal.returns-then-not-is_good
returns-then-not-is_good c =
    record {
      all = c.loop-k.invariant;
      last = ready-test _ _ _ _ _ _ c.loop-k-test.true ∙ rw (← c.is_good.ensures, ← c.is_good-in-loop-k.ensures) c.if-not-is_good.true;
    }

pub loop-k-preserved : goal.loop-k-preserved
loop-k-preserved c =
    below_more _ _ c.loop-k.invariant
    (ready-test _ _ _ _ _ _ c.loop-k-test.true ∙ rw (← c.is_good.ensures, ← c.is_good-in-loop-k.ensures) c.if-not-is_good.false)

pub returns : goal.returns
returns c = record { all = λ j h. c.loop-k.invariant j (omega arith); last = ready-full _ _ _ _ _ _ (omega arith) }
