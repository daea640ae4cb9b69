-- `put_link` meets its contract: four fields, one behind the other.
use Rattle.saved_book.specs.Saved.{link_bytes}
use Rattle.saved_write.proofs.Puts.{put_then}
use Rattle.saved_write.proofs.cards.put_link.Goals as goal

pub returns : goal.returns
unfolding link_bytes
returns c =
    put_then (put_then (put_then c.put_number-place_end.ensures.0 c.put_key-low_end.ensures.0) c.put_key-high_end.ensures.0) c.put_number.ensures.0
