-- What opening leaves in the pieces that it is lent, by its number.
use Rattle.std.specs.Prelude.{ℕ, ◌≡◌, List, cond, ◌||◌, eqb, length}
use Rattle.ldc.specs.Lent.{Lent}
use Rattle.ldc.specs.Run.{accepted, unsound}
use Rattle.book.specs.Pieces.{Words, MutWords, MutRows, lent}
use Rattle.saved_book.specs.Opened.{opened_over}
use Rattle.saved_book.specs.Calls.{opening, open_with, working_after}

-- Pieces that the book is read into and judged in: with 0 and 5 the store as opened, else what was there.
unfoldable pub opened_into : (number : ℕ) → Lent → (bytes : List ℕ) → Lent
opened_into number m bytes = cond (eqb number accepted || eqb number unsound) (opened_over m.area bytes) m

-- The cards: with 0 the working rows, else what was there.
unfoldable pub cards_left : (number : ℕ) → (working cards : List (List ℕ)) → List (List ℕ)
cards_left number working cards = cond (eqb number accepted) working cards

-- Working rows, lists, head and memory table, as a call that does not see the cards is lent them and leaves them.
pub record Pieces : Type 0 where
  pub working : List (List ℕ)
  pub lists : List ℕ
  pub head : List ℕ
  pub memory : List ℕ

-- Opening beside so many cards, which are not seen: it returns and leaves what opening does, whatever the cards are, if with 0 the working rows are
-- carried to them; and the working rows are settled.
pub record Beside (number cards : ℕ) (area bytes : List ℕ) (p q : Pieces) : Type 0 where
  pub opens : (c : List (List ℕ)) → length c ≡ cards
      → opening number (lent area (cards_left number q.working c) q.lists q.head q.memory)
      ≡ open_with p.working (lent area c p.lists p.head p.memory) bytes
  pub rows : q.working ≡ working_after number p.working area bytes

abbrev pub book_in : (working : MutRows) → (lists head memory : MutWords) → Pieces
book_in working lists head memory =
    record { working = working.entry.now; lists = lists.entry.now; head = head.entry.now; memory = memory.entry.now }

abbrev pub book_out : (working : MutRows) → (lists head memory : MutWords) → Pieces
book_out working lists head memory =
    record { working = working.exit.now; lists = lists.exit.now; head = head.exit.now; memory = memory.exit.now }

-- The five pieces of a call that changes the book and only reads the area, after it.
abbrev pub book_after : (area : Words) → (cards : MutRows) → (lists head memory : MutWords) → Lent
book_after area cards lists head memory = lent area.entry.now cards.exit.now lists.exit.now head.exit.now memory.exit.now
