-- `admit` meets its contract: the same tests. Sizes and working rows matter by their numbers only.
use mathlib.Core.Path.{◌≡◌, sym, ◌∙◌}
use mathlib.Core.Bool.{Bool, ◌&&◌}
use native.Mathlib.Omega.{arith}
use borrow.Author.Rules.{rules}
use borrow.Author.Tests.{not-true, not-false, leb-true}
use lib.Dec.{eqb, leb}
use lib.ListN.{length}
use Rattle.table.proofs.Tests.{and_parts}
use Rattle.ldc.specs.Rules.{threshold_good}
use Rattle.ldc.specs.Layout.{fewest_places}
use Rattle.history_grown.specs.Grown.{Handed}
use Rattle.history_grown.proofs.Granted.{sized, sized_same, number-sizes, number-threshold, number_short, number-zero, few-cards}
use Rattle.history_grown.proofs.admit.Statement.{statement}
use Rattle.history_grown.proofs.admit.Tie as tie

sizes-requires : tie.Need-sizes-requires
sizes-requires c κs = search rules

-- The test of number 1, of whatever has these sizes.
tested : (c : tie.After-sizes) (h : Handed)
    → let a = c.args in
    length h.lent.area ≡ a.area → length h.lent.cards ≡ a.cards → length h.lent.lists ≡ a.lists → length h.working ≡ a.working
    → (c.sizes.result && (eqb a.working a.cards && (leb fewest_places a.first && leb a.first a.cards))) ≡ sized h a.first
tested c h ea ec el ew =
    let a = c.args in
    sized_same h a.first a.cards a.working c.sizes.result (c.sizes.ensures h.lent ea ec el) ec ew

returns : tie.Need-returns-then-not-sizes-working
returns c h ea ec el eb ew =
    let a = c.args in
    number-sizes h a.threshold a.first (sym (tested c.before h ea ec el ew) ∙ c.if-not-sizes-working.true)

returns-2 : tie.Need-returns-then-not-threshold
unfolding threshold_good
returns-2 c h ea ec el eb ew =
    let d = c in
    let a = d.args in
    number-threshold h a.threshold a.first (sym (tested d.before.before h ea ec el ew) ∙ d.if-not-sizes-working.false) (c.if-not-threshold.true)

-- Not more places than a store can have.
longest-requires : tie.Need-longest-requires
longest-requires c κs =
    let d = c in
    let a = d.args in
    let r = d.sizes.result in
    let rest : Bool = eqb a.working a.cards && (leb fewest_places a.first && leb a.first a.cards) in
    let p = and_parts r rest (d.if-not-sizes-working.false) in
    let q = and_parts (eqb a.working a.cards) _ p.1 in
    let w = and_parts (leb fewest_places a.first) (leb a.first a.cards) q.1 in
    omega (arith, few-cards a.area a.cards a.lists r d.sizes.ensures p.0, leb-true a.first a.cards w.1)

returns-3 : tie.Need-returns-then-buffer-longest
unfolding threshold_good
returns-3 c h ea ec el eb ew =
    let e = c in
    let d = e in
    let a = d.args in
    number_short h a.threshold a.first (sym (tested d.before.before.before.before h ea ec el ew) ∙ d.if-not-sizes-working.false) (e.if-not-threshold.false)
    (omega (arith, c.if-buffer-longest.true, c.longest.ensures, eb))

returns-4 : tie.Need-returns
unfolding threshold_good
returns-4 c h ea ec el eb ew =
    let e = c in
    let d = e in
    let a = d.args in
    number-zero h a.threshold a.first (sym (tested d.before.before.before.before h ea ec el ew) ∙ d.if-not-sizes-working.false) (e.if-not-threshold.false)
    (omega (arith, c.if-buffer-longest.false, c.longest.ensures, eb))

pub admit_spec : {M : Type 1} → statement M
admit_spec =
    tie.close (tie.spec sizes-requires returns returns-2 longest-requires returns-3 returns-4)
