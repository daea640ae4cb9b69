-- `put_mark` meets its contract: two fields, one behind the other.
use Rattle.saved_write.proofs.Puts.{put_then}
use Rattle.saved_write.proofs.head.put_mark.Goals as goal

pub returns : goal.returns
returns c =
    put_then c.put_number-flag_end.ensures.0 c.put_key.ensures.0
