-- The lists from level n's on are left to write.
use Rattle.std.proofs.Common.{drop, map}
use Rattle.ldc.specs.Lists.{flat}
use Rattle.saved_book.specs.Saved.{list_bytes}
use Rattle.saved_write.specs.Book.{levels_in, lists_bytes}
use Rattle.saved_write.proofs.Puts.{Left}
use Rattle.saved_write.proofs.lists.put_lists.Given as goal

abbrev pub invariant-loop-n : goal.invariant-loop-n
invariant-loop-n l =
    Left l.fn.out l.at (lists_bytes l.places l.lists l.head) l.out l.to (flat (map list_bytes (drop l.n (levels_in l.places l.lists l.head))))
