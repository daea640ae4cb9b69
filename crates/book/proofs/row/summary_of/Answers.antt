-- `summary_of` meets its contract: the last four words.
use Prim.Native.Nat.{◌-◌}
use mathlib.Core.Path.{◌≡◌}
use native.Mathlib.Omega.{arith}
use lib.ListN.{length, take, drop, length-drop}
use lib.Seq.{take_all}
use Rattle.ldc.specs.Layout.{summary_start, row_size}
use borrow.Author.Rules.{rules}
use Rattle.book.proofs.row.summary_of.Goals as goal

pub returns : goal.returns
returns c =
    let row = c.args.row.now in
    let long : length row ≡ row_size = search rules in
    let whole : take (length row - summary_start) (drop summary_start row) ≡ drop summary_start row =
    take_all (length row - summary_start) (drop summary_start row) (rw length-drop (omega arith)) in
    (whole, rw (whole, length-drop) (omega arith))
