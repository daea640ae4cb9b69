-- `in_turn` meets its contract: a turn takes the first off those left, by what the call at it answers.
use Rattle.std.proofs.Common.{refl, ◌∙◌, ap, Some, None}
use Rattle.book.specs.Place.{the_index}
use Rattle.saved_form.proofs.Turns.{all_left, ended, goes_on, stops}
use Rattle.saved_form.proofs.parts.in_turn.Goals as goal

pub loop-init : goal.loop-init
loop-init g c = (c.requires.begun, λ f t. all_left c.args.n f c.args.from)

pub loop-preserved : goal.loop-preserved
loop-preserved g c =
    let l = c.loop in
    let next = c.in_ok-at.at in (
      c.requires.within l.at next l.invariant.0 c.in_ok-at.ensures,
      λ f t. goes_on _ f l.counter l.at _ (l.invariant.1 f t) c.loop-test.true next
          (t c.args.s l.at (Some next) refl l.invariant.0 c.in_ok-at.ensures),
    )

pub returns-in_err-at : goal.returns-in_err-at
returns-in_err-at g c f t =
    let l = c.loop in
    ap the_index c.from_residual.ensures
    ∙ stops _ f l.counter l.at _ (l.invariant.1 f t) c.loop-test.true (t c.args.s l.at None refl l.invariant.0 c.in_err-at.ensures)

pub returns : goal.returns
returns g c f t =
    let l = c.loop in
    ended _ f l.counter l.at _ (l.invariant.1 f t) c.loop-test.false
