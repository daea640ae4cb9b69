-- `length_of` meets its contract: the lengths of the pieces, added up.
use native.Mathlib.Omega.{arith}
use Rattle.saved_write.proofs.Whole.{pieces-long}
use Rattle.saved_write.proofs.length_of.Goals as goal

pub lists_length-lists_length-requires : goal.lists_length-lists_length-requires
lists_length-lists_length-requires c = λ n h. omega (arith, c.requires.lengths n h)

pub overflow_add-result-3 : goal.overflow_add-result-3
overflow_add-result-3 c = omega arith

pub returns : goal.returns
returns c =
    let a = c.args in
    λ lists sized. omega (
      arith,
      pieces-long a.cards.now lists a.head.now a.memory.now sized c.requires.lengths,
      c.memory_length-memory_length.ensures.0,
      c.lists_length-lists_length.ensures.0,
      c.cards_length-cards_length.ensures.0,
    )
