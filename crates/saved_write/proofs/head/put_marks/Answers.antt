-- `put_marks` meets its contract: the words of two good marks are their bytes.
use native.Mathlib.Omega.{arith}
use Rattle.saved_book.specs.Saved.{number_bytes, key_bytes}
use lib.ListN.{get_or, length-append}
use Rattle.saved_write.proofs.Widths.{length-number, length-key}
use Rattle.saved_write.proofs.Puts.{put_then, put_as}
use Rattle.saved_write.proofs.Pieces.{marks-put}
use Rattle.saved_write.proofs.head.put_marks.Goals as goal

pub put_mark-requires : goal.put_mark-requires
put_mark-requires c =
    let head = c.args.head.now in
    let n = length-number (get_or head 2 0) in
    let k = length-key (get_or head 3 0) in
    omega (arith, c.put_mark-next.ensures.behind, length-append (number_bytes (get_or head 2 0)) (key_bytes (get_or head 3 0)))

pub returns : goal.returns
returns c =
    put_as (put_then c.put_mark-next.ensures c.put_mark.ensures) (marks-put c.args.head.now c.requires.0)
