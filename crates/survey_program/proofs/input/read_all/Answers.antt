-- `read_all` meets its contract: what a read brings stands behind what was read before it.
use Rattle.std.proofs.Common.{arith, sym, ap, ◌∙◌, List, ℕ, ◌++◌, take, drop}
use mathlib.Core.Path.{subst}
use lib.Seq.{take-add}
use Rattle.std.specs.Io.KnownBytes.{Consumes}
use Rattle.std.proofs.KnownBytes.{Consumes-trans}
use Rattle.survey_program.proofs.input.read_all.Goals as goal

pub loop-at-preserved : goal.loop-at-preserved
loop-at-preserved g c =
    let e = c.in-Ok.ensures in
    let new = c.read_some.new in
    let part = take c.in-Ok.n (drop c.loop-at.at new.buffer) in (
      omega (arith, e.within, c.read_some.auto.buffer),
      subst
          (λ (y : List ℕ). Consumes (g.R.Read.remaining c.args.from.now) (g.R.Read.remaining new.from) y)
          (ap (λ (y : List ℕ). y ++ part) (sym e.before) ∙ sym (take-add c.loop-at.at c.in-Ok.n new.buffer))
          (Consumes-trans _ _ _ _ _ c.loop-at.invariant.1 e.read),
    )
