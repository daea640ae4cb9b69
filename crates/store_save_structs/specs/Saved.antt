-- Saving and opening where the cards are structs, with working rows beside them: what a call returns, and what it leaves.
use Rattle.std.specs.Prelude.{ℕ, cond, List, eqb}
use Rattle.ldc.specs.Lent.{Lent}
use Rattle.ldc.specs.Run.{wrong_sizes}
use Rattle.book.specs.Pieces.{Words, MutWords, lent}
use Rattle.saved_book.specs.Calls.{Saving, refused_save, save_book}
use Rattle.store_cards.specs.declared.Card.{Card}
use Rattle.store_cards.specs.Card.{rows_of}
use Rattle.store_structs.specs.Over.{as_many, Cards}

-- Another number of working rows than cards is refused by 1.
unfoldable pub save_over : (rows : List (List ℕ)) → Lent → (buffer : List ℕ) → Saving
save_over rows m buffer = cond (as_many rows m) (save_book m buffer) (refused_save wrong_sizes buffer)

-- The working rows after saving: with 1 they stay, otherwise they are the cards' words.
unfoldable pub rows_saved : (number : ℕ) → (rows : List (List ℕ)) → (cards : List Card) → List (List ℕ)
rows_saved number rows cards = cond (eqb number wrong_sizes) rows (rows_of cards)

-- The five pieces of a call that changes the book and only reads the area, after it.
abbrev pub book_after_over : (area : Words) → (cards : Cards) → (lists head memory : MutWords) → Lent
book_after_over area cards lists head memory =
    lent area.entry.now (rows_of cards.exit.now) lists.exit.now head.exit.now memory.exit.now
