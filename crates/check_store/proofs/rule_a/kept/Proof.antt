-- `kept` meets its contract by computation.
use mathlib.Core.Path.{refl}
use borrow.Author.Rules.{rules}
use Rattle.ldc.specs.Rules.{threshold_good}
use Rattle.check_store.proofs.rule_a.kept.Statement.{statement}
use Rattle.check_store.proofs.rule_a.kept.Tie as tie

element-copy-out-result : tie.Need-bounds-head-0
element-copy-out-result c = search rules

element-copy-out-result-2 : tie.Need-bounds-head-0-2
element-copy-out-result-2 c = search rules

element-copy-out-result-3 : tie.Need-bounds-head-1
element-copy-out-result-3 c = search rules

returns : tie.Need-returns
unfolding threshold_good
returns c = refl

pub kept_spec : {M : Type 1} → statement M
kept_spec =
    tie.close (tie.spec element-copy-out-result element-copy-out-result-2 element-copy-out-result-3 returns)
