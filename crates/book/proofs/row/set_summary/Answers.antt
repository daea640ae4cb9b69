-- `set_summary` meets its contract: the last words of the row are written as one run.
use Rattle.std.proofs.Common.{◌≡◌, ◌-◌, [], length, get_or, set, ap, arith}
use Rattle.coding.proofs.Sets.{sets-back}
use Rattle.summary.specs.Summary.{summary_words}
use Rattle.ldc.specs.Layout.{row_size, summary_start}
use Rattle.book.proofs.row.set_summary.Goals as goal

pub returns : goal.returns
returns c =
    let a = c.args in
    let row = get_or a.cards.now a.p [] in
    let long : length row ≡ row_size = c.told-cards a.p c.requires in
    let four : length a.words ≡ summary_words = omega (arith, c.well_formed) in
    ap (set a.cards.now a.p)
    (rw c.copy_from_slice.ensures.after (sets-back row summary_start (length row - summary_start) a.words (omega arith) (omega arith)))
