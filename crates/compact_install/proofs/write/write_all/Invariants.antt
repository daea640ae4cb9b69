-- The loop of `write_all`: for every store and tables that the pieces showed, the pieces show the store after i of them.
use Rattle.std.proofs.Common.{ℕ, ◌≤◌, List}
use Rattle.table.specs.Entry.{Entry}
use Rattle.ldc.specs.Store.{Store}
use Rattle.ldc.specs.Place.{free_places}
use Rattle.book.specs.Head.{head_words}
use Rattle.book_edit.specs.Shown.{Fits, Shows}
use Rattle.compact_install.specs.Tables.{Tables}
use Rattle.compact_install.proofs.Many.{Sofar}
use Rattle.compact_install.proofs.write.write_all.Given as goal

abbrev pub invariant-loop-i : goal.invariant-loop-i
invariant-loop-i l =
    (s : Store) (ts : List (List Entry)) → Fits s → Shows l.initial.area l.initial.cards (head_words l.initial.noted) s → Tables l.out l.k ts
    → l.k ≤ free_places s → Sofar l.area l.cards (head_words l.noted) l.initial.taken l.taken l.k l.i s ts
