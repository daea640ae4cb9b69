-- A level's list that is too long, one with an item that names no place, and one that is good.
use mathlib.Core.Path.{◌≡◌, refl, sym, ◌∙◌}
use mathlib.Core.Bool.{false≢true}
use native.Mathlib.Omega.{arith}
use borrow.Author.Tests.{le-leb, lt-leb}
use Rattle.ldc.specs.Layout.{items_in, level_count}
use Rattle.book.proofs.Every.{from-fails, from-passes, from-done}
use Rattle.check_places.specs.Lists.{tallied, list_good, lists_good}
use Rattle.check_places.proofs.Tally.{levels-turn, levels-end}
use Rattle.check_places.proofs.rule_b.tally_all.Goals as goal

pub loop-n-init : goal.loop-n-init
unfolding lists_good
loop-n-init c = (refl, refl, refl)

pub returns-then-places-len : goal.returns-then-places-len
unfolding list_good lists_good
returns-then-places-len c =
    let l = c.loop-n in
    let a = c.args in (
      from-fails (list_good a.places a.lists.now a.head.now) level_count l.n c.loop-n-test.true l.invariant.1
          (rw (← c.length-len.ensures, lt-leb _ _ c.if-places-len.true)),
      λ e. absurd (false≢true e),
    )

pub returns-then-not-tally : goal.returns-then-not-tally
unfolding list_good lists_good
returns-then-not-tally c =
    let l = c.loop-n in
    let a = c.args in (
      from-fails (list_good a.places a.lists.now a.head.now) level_count l.n c.loop-n-test.true l.invariant.1
          (rw (← c.length-len.ensures, le-leb _ _ c.if-places-len.false, ← c.items.ensures) (sym c.tally.ensures.0 ∙ c.if-not-tally.true)),
      λ e. absurd (false≢true e),
    )

pub loop-n-preserved : goal.loop-n-preserved
unfolding list_good lists_good
loop-n-preserved c =
    let l = c.loop-n in
    let a = c.args in
    let added = c.tally.ensures.1 c.if-not-tally.false in
    let here : tallied l.counts (items_in a.places a.lists.now a.head.now l.n) ≡ c.tally.new.counts =
    sym (added ∙ rw (c.items.ensures, c.length-len.ensures)) in (
      c.tally.auto.counts ∙ l.invariant.0,
      from-passes (list_good a.places a.lists.now a.head.now) level_count l.n c.loop-n-test.true l.invariant.1
          (rw (← c.length-len.ensures, le-leb _ _ c.if-places-len.false, ← c.items.ensures) (sym c.tally.ensures.0 ∙ c.if-not-tally.false)),
      l.invariant.2 ∙ levels-turn l.counts level_count l.n a.places a.lists.now a.head.now c.loop-n-test.true ∙ rw here,
    )

pub returns : goal.returns
unfolding lists_good
returns c =
    let l = c.loop-n in
    let a = c.args in (
      from-done (list_good a.places a.lists.now a.head.now) level_count l.n (omega arith) l.invariant.1,
      λ _. sym (l.invariant.2 ∙ levels-end l.counts level_count l.n a.places a.lists.now a.head.now (omega arith)),
    )
