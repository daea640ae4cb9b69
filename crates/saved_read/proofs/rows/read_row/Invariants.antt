-- The row is what is written with the links left, from the i-th on.
use Rattle.std.proofs.Common.{◌≡◌, ◌+◌, ◌*◌, ◌-◌}
use lib.Seq.{sets}
use Rattle.ldc.specs.Layout.{link_start, link_words}
use Rattle.saved_book.specs.Form.{card_head, link_width}
use Rattle.saved_book.specs.Opened.{links_saved, row_saved}
use Rattle.saved_read.proofs.rows.read_row.Given as goal

abbrev pub invariant-loop-i : goal.invariant-loop-i
invariant-loop-i l =
    row_saved l.s l.at ≡ sets l.row (link_start l.i) (link_words (links_saved (l.n - l.i) l.s (l.at + card_head + link_width * l.i)))
