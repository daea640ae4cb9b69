-- `links_held` meets its contract: a row that is not live has no links, a live one as many as it says, up to the limit.
use Rattle.std.proofs.Common.{◌≡◌, true, sym, ◌∙◌, arith}
use Rattle.std.proofs.lemmas.Grind.{common_steps}
use Rattle.ldc.specs.Store.{is_live}
use Rattle.ldc.specs.Layout.{card_of}
use Rattle.book.proofs.Rows.{dead-count, live-count}
use Rattle.book.proofs.row.links_held.Goals as goal

pub returns-then-is_live : goal.returns-then-is_live
returns-then-is_live c =
    let row = c.args.row.now in
    let live : is_live (card_of row) ≡ true = sym c.is_live.ensures ∙ c.if-is_live.true in
    let held = live-count row live in
    grind (arith, common_steps, held)

pub returns-else-is_live : goal.returns-else-is_live
returns-else-is_live c =
    let row = c.args.row.now in
    sym (dead-count row (sym c.is_live.ensures ∙ c.if-is_live.false))
