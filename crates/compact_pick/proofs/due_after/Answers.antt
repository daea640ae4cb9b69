-- `due_after` meets its contract, by the cases of the plan.
use mathlib.Core.Path.{refl}
use native.Mathlib.Omega.{arith}
use borrow.Author.Tests.{lt-ltb, le-ltb}
use Rattle.ldc.specs.Store.{last_level}
use Rattle.ldc.specs.Layout.{level_count}
use Rattle.compact_pick.specs.Calm.{calm_after}
use Rattle.compact_pick.proofs.due_after.Goals as goal

pub returns-in-Idle : goal.returns-in-Idle
unfolding calm_after
returns-in-Idle c = rw c.in-Idle.is

pub returns-then-n-lt-LAST_LEVEL : goal.returns-then-n-lt-LAST_LEVEL
unfolding calm_after
returns-then-n-lt-LAST_LEVEL c = rw (c.in-Down.is, lt-ltb _ last_level c.if-n-lt-LAST_LEVEL.true) (omega arith)

pub returns-else-n-lt-LAST_LEVEL : goal.returns-else-n-lt-LAST_LEVEL
unfolding calm_after
returns-else-n-lt-LAST_LEVEL c = rw (c.in-Down.is, le-ltb _ last_level c.if-n-lt-LAST_LEVEL.false) refl

pub returns-then-suspect-lt-LEVELS : goal.returns-then-suspect-lt-LEVELS
unfolding calm_after
returns-then-suspect-lt-LEVELS c = rw (c.in-Merge.is, lt-ltb _ level_count c.if-suspect-lt-LEVELS.true) refl

pub returns-else-suspect-lt-LEVELS : goal.returns-else-suspect-lt-LEVELS
unfolding calm_after
returns-else-suspect-lt-LEVELS c = rw (c.in-Merge.is, le-ltb _ level_count c.if-suspect-lt-LEVELS.false) refl
