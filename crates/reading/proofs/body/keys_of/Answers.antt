-- `keys_of` meets its contract: a law for the intervals on a line. The ends of an interval fit a key's 40 bits.
use Rattle.std.proofs.Common.{sym, ◌∙◌, arith}
use Rattle.std.proofs.lemmas.Result.{err_from_is_err_and}
use Rattle.reading.proofs.Bodies.{on-a-line}
use Rattle.reading.proofs.Ends.{interval-ends}
use Rattle.reading.proofs.body.keys_of.Goals as goal

pub returns-in_err-millimetres : goal.returns-in_err-millimetres
returns-in_err-millimetres c =
    let p = err_from_is_err_and c.from_residual.result c.from_residual.ensures.1 in
    rw (p.1, p.2) (on-a-line _ _ (omega arith) _ (sym c.in_err-millimetres.was ∙ c.interval_of.ensures))

pub on-requires : goal.on-requires
on-requires c =
    let e = interval-ends _ _ (sym c.interval_of.ensures ∙ c.in_ok-millimetres.was) in
    (omega arith, omega (arith, e))

pub on-requires-2 : goal.on-requires-2
on-requires-2 c =
    let e = interval-ends _ _ (sym c.interval_of.ensures ∙ c.in_ok-millimetres.was) in
    (omega arith, e.1)

pub returns : goal.returns
returns c =
    cc (
      on-a-line c.args.line c.args.reading (omega arith) _ (sym c.in_ok-millimetres.was ∙ c.interval_of.ensures),
      c.on.ensures,
      c.on-2.ensures,
    )
