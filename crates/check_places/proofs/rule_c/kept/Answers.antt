-- A place that is bad, and one that is good, whose greatest key is then noted.
use mathlib.Core.Path.{refl, sym, ◌∙◌}
use mathlib.Core.Bool.{false≢true}
use native.Mathlib.Nat.{sub-zero}
use native.Mathlib.Omega.{arith}
use lib.ListN.{length, length-set}
use Rattle.book.proofs.Every.{from-fails, from-passes}
use Rattle.check_places.specs.Links.{place_tabled, walk_c}
use Rattle.check_places.proofs.FoundLaws.{one_more}
use Rattle.check_places.proofs.rule_c.kept.Goals as goal

pub loop-p-init : goal.loop-p-init
unfolding walk_c
loop-p-init c = (refl, rw sub-zero, λ q h used. absurd (omega arith))

pub returns-in_default : goal.returns-in_default
unfolding place_tabled
returns-in_default c =
    let l = c.loop-p in
    let a = c.args in (
      from-fails (place_tabled a.area.now a.cards.now) (length a.cards.now) l.p c.loop-p-test.true l.invariant.1
          (rw (← c.bytes_of.ensures.0) (sym c.in_default.ensures.good)),
      λ e. absurd (false≢true e),
    )

pub loop-p-preserved : goal.loop-p-preserved
unfolding place_tabled
loop-p-preserved c =
    let l = c.loop-p in
    let a = c.args in
    let told = c.in-Some.ensures in (
      simp length-set l.invariant.0,
      from-passes (place_tabled a.area.now a.cards.now) (length a.cards.now) l.p c.loop-p-test.true l.invariant.1
          (rw (← c.bytes_of.ensures.0) (sym told.good)),
      one_more l.p c.in-Some.greatest.value a.area.now a.cards.now l.ends (omega arith) l.invariant.2
          (λ used. told.greatest used ∙ rw c.bytes_of.ensures.0),
    )
