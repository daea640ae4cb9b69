-- `free_all` meets its contract: a row is made free, and those behind it are left to be.
use Rattle.std.proofs.Common.{◌≡◌, [], sym, ◌∙◌, drop, arith}
use lib.ListN.{length-map, drop_of_length-le}
use Rattle.coding.proofs.Sets.{sets-all}
use Rattle.table.specs.Table.{zeros}
use Rattle.summary.specs.Summary.{summary_words}
use Rattle.ldc.specs.Store.{free}
use Rattle.ldc.specs.Layout.{row_with}
use Rattle.book.specs.Made.{all_free}
use Rattle.book.proofs.Made.{free-all-turn}
use Rattle.store_make.proofs.free_all.Goals as goal

pub loop-p-init : goal.loop-p-init
unfolding all_free
loop-p-init c =
    let rows = c.args.cards.now in
    sym (sets-all rows (all_free rows) (length-map rows (λ _. row_with free (zeros summary_words))))

pub loop-p-preserved : goal.loop-p-preserved
loop-p-preserved c =
    let l = c.loop-p in
    rw c.free.ensures (l.invariant ∙ free-all-turn l.cards l.p (omega arith))

pub returns : goal.returns
unfolding all_free
returns c =
    let l = c.loop-p in
    let none : drop l.p l.cards ≡ [] = drop_of_length-le l.cards {i = l.p} (omega arith) in
    sym (rw none at l.invariant)
