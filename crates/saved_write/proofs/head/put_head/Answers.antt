-- `put_head` meets its contract: four fields and the marks, one behind the other.
use Rattle.saved_write.proofs.Puts.{put_then}
use Rattle.saved_write.specs.Book.{head_bytes}
use Rattle.saved_write.proofs.head.put_head.Goals as goal

pub returns : goal.returns
unfolding head_bytes
returns c =
    let kind = rw c.from.ensures at c.put_number-kind_end.ensures.0 in
    let places = put_then kind c.put_number-places_end.ensures.0 in
    put_then (put_then (put_then places c.put_number-threshold_end.ensures.0) c.put_number-cursor_end.ensures.0) c.put_marks.ensures
