-- `wipe` meets its contract: a fill with zero is a run of zeros.
use Rattle.std.proofs.Common.{length, sym, ◌∙◌}
use Rattle.table.proofs.Zeros.{zeros-replicate}
use Rattle.table_builder.proofs.place.wipe.Goals as goal

pub returns : goal.returns
returns c = c.fill.ensures.after (λ y h. h) ∙ sym (zeros-replicate (length c.args.s.now))
