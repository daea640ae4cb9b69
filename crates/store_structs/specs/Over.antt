-- Lent memory whose cards are structs, and working rows beside them: what a call returns, and what it leaves.
use Rattle.std.specs.Prelude.{ℕ, ◌≡◌, Bool, cond, ◌||◌, List, eqb, length}
use Rattle.std.specs.Borrow.{MutBor}
use denote.Triple.Both.{Both}
use Rattle.ldc.specs.Lent.{Lent}
use Rattle.ldc.specs.Run.{accepted, wrong_sizes, unsound, Made, make, check, Outcome, refused_run, run}
use Rattle.book.specs.Made.{made}
use Rattle.book.specs.Pieces.{MutWords, lent}
use Rattle.store_cards.specs.declared.Card.{Card}
use Rattle.store_cards.specs.Card.{rows_of}
use Rattle.store_run.specs.Early.{early_number}

-- ---- what a call returns: what it returns over rows, but another number of working rows than cards is refused by 1

abbrev pub as_many : (rows : List (List ℕ)) → Lent → Bool
as_many rows m = eqb (length rows) (length m.cards)

unfoldable pub make_over : (rows : List (List ℕ)) → Lent → (threshold : ℕ) → Made
make_over rows m t = cond (as_many rows m) (make m t) (made wrong_sizes m)

unfoldable pub check_over : (rows : List (List ℕ)) → Lent → ℕ
check_over rows m = cond (as_many rows m) (check m) wrong_sizes

unfoldable pub run_over : (rows : List (List ℕ)) → Lent → (list answer : List ℕ) → Outcome
run_over rows m list answer = cond (as_many rows m) (run m list answer) (refused_run wrong_sizes m answer)

-- The number by which a run is refused before anything is carried over.
unfoldable pub early_over : (rows : List (List ℕ)) → Lent → (room : ℕ) → (list : List ℕ) → ℕ
early_over rows m room list = cond (as_many rows m) (early_number m room list) wrong_sizes

-- ---- what a call leaves

-- The working rows. Numbers 1 to 4 are found before anything is carried over: the rows stay. Otherwise they are working memory and hold the
-- words of the cards as they are left: with 0 those of the store after the call, with 5 those of the store that is refused.
unfoldable pub rows_after : (number : ℕ) → (rows : List (List ℕ)) → (cards : List Card) → List (List ℕ)
rows_after number rows cards = cond (eqb number accepted || eqb number unsound) (rows_of cards) rows

-- Rows and cards. A refused call, by whatever number, leaves the cards as they were.
pub record Left (number : ℕ) (rows last_rows : List (List ℕ)) (cards last_cards : List Card) : Type 0 where
  pub rows_are : last_rows ≡ rows_after number rows last_cards
  pub cards-stay : (number ≡ accepted → ⊥) → last_cards ≡ cards

-- ---- the five pieces of a call, the cards by their words

-- A slice of cards lent by `&mut`, at the two moments of a call.
abbrev pub Cards : Type 0
Cards = Both (MutBor (List Card)) (MutBor (List Card))

-- What a call may find lent by `&` or by `&mut` is told by its contents.
abbrev pub before_over : (area : List ℕ) → (cards : List Card) → (lists head memory : List ℕ) → Lent
before_over area cards lists head memory = lent area (rows_of cards) lists head memory

abbrev pub after_over : (area : MutWords) → (cards : Cards) → (lists head memory : MutWords) → Lent
after_over area cards lists head memory =
    lent area.exit.now (rows_of cards.exit.now) lists.exit.now head.exit.now memory.exit.now

-- ---- the same where the cards are had by value

abbrev pub before_with : (area : MutWords) → List Card → (lists head memory : MutWords) → Lent
before_with area cards lists head memory =
    lent area.entry.now (rows_of cards) lists.entry.now head.entry.now memory.entry.now

abbrev pub after_with : (area : MutWords) → List Card → (lists head memory : MutWords) → Lent
after_with area cards lists head memory = lent area.exit.now (rows_of cards) lists.exit.now head.exit.now memory.exit.now
