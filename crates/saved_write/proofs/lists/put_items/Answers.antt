-- `put_items` meets its contract: the count, and the items behind it.
use Prim.Native.Nat.{◌+◌}
use mathlib.Core.Path.{sym, ◌∙◌, ap}
use native.Mathlib.Omega.{arith}
use lib.Seq.{sets}
use Rattle.saved_book.specs.Saved.{list_bytes}
use Rattle.saved_write.proofs.Widths.{length-numbers, length-list}
use Rattle.saved_write.proofs.Puts.{put_then}
use Rattle.saved_write.proofs.Pieces.{numbers-put}
use Rattle.saved_write.proofs.lists.put_items.Goals as goal

pub put_number-start-requires : goal.put_number-start-requires
put_number-start-requires c =
    omega (arith, length-list c.args.items.now)

pub put_numbers-requires : goal.put_numbers-requires
put_numbers-requires c =
    omega (arith, length-list c.args.items.now)

pub overflow_add-result : goal.overflow_add-result
overflow_add-result c =
    omega (arith, c.requires, length-list c.args.items.now, c.put_number-start.ensures.1)

pub returns : goal.returns
unfolding list_bytes
returns c =
    let items = c.args.items.now in
    put_then c.put_number-start.ensures.0
    record {
      written = c.put_numbers.ensures ∙ ap (sets _ _) (numbers-put items);
      behind = ap (λ n. c.put_number-start.result + n) (sym (length-numbers items));
    }
