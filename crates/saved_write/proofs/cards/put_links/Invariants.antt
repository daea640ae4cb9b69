-- The links from the i-th on are left to write.
use Rattle.std.proofs.Common.{drop, map}
use Rattle.ldc.specs.Lists.{flat}
use Rattle.book.specs.Row.{links_in}
use Rattle.saved_book.specs.Saved.{link_bytes}
use Rattle.saved_write.proofs.Puts.{Left}
use Rattle.saved_write.proofs.cards.put_links.Given as goal

abbrev pub invariant-loop-i : goal.invariant-loop-i
invariant-loop-i l = Left l.fn.out l.at (flat (map link_bytes (links_in l.row))) l.out l.to (flat (map link_bytes (drop l.i (links_in l.row))))
