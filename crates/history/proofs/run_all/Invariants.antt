-- The loop of `run_all`: the runs up to k are performed, and what is read off them is the definition's history.
use Rattle.book.specs.Pieces.{lent}
use Rattle.history_lists.specs.Pieces.{pieces}
use Rattle.history_lists.specs.Performs.{Ran}
use Rattle.history.proofs.run_all.Given as goal

abbrev pub invariant-loop-k : goal.invariant-loop-k
invariant-loop-k l =
    Ran (lent l.initial.area l.initial.cards l.initial.lists l.initial.head l.initial.memory)
    (pieces l.input l.ends l.initial.answers l.stops l.initial.served) l.from l.k (lent l.area l.cards l.lists l.head l.memory)
    (pieces l.input l.ends l.answers l.stops l.served)
