-- The five lent pieces of a call, over its parameters: the lent memory as it was given, and as it is left.
use Rattle.std.specs.Prelude.{ℕ, List}
use Rattle.std.specs.Borrow.{Bor, MutBor}
use denote.Triple.Both.{Both}
use Rattle.ldc.specs.Lent.{Lent}
use Rattle.book.specs.Head.{head_words}
use Rattle.book.specs.declared.head.Head.{Head}

-- The lent memory of these pieces.
abbrev pub lent : (area : List ℕ) → (cards : List (List ℕ)) → (lists head memory : List ℕ) → Lent
lent area cards lists head memory = record { area = area; cards = cards; lists = lists; head = head; memory = memory }

-- A lent slice of numbers, or of rows, at the two moments of a call: lent by `&`, and by `&mut`.
abbrev pub Words : Type 0
Words = Both (Bor (List ℕ)) (Bor (List ℕ))

abbrev pub Rows : Type 0
Rows = Both (Bor (List (List ℕ))) (Bor (List (List ℕ)))

abbrev pub MutWords : Type 0
MutWords = Both (MutBor (List ℕ)) (MutBor (List ℕ))

abbrev pub MutRows : Type 0
MutRows = Both (MutBor (List (List ℕ))) (MutBor (List (List ℕ)))

-- What a call may find lent by `&` or by `&mut` is told by its contents, `.now` of a `&` and `.old` of a `&mut`; the others over the
-- parameters themselves.

-- ---- all five lent, as at the edge: before the call, and after it

abbrev pub before : (area : List ℕ) → (cards : List (List ℕ)) → (lists head memory : List ℕ) → Lent
before area cards lists head memory = lent area cards lists head memory

abbrev pub after : (area : MutWords) → (cards : MutRows) → (lists head memory : MutWords) → Lent
after area cards lists head memory = lent area.exit.now cards.exit.now lists.exit.now head.exit.now memory.exit.now

-- ---- the head by value, as inside: as a `requires` sees them, as an `ensures` sees them at entry, and at exit

abbrev pub given : (area : List ℕ) → (cards : List (List ℕ)) → (lists : List ℕ) → Head → (memory : List ℕ) → Lent
given area cards lists head memory = lent area cards lists (head_words head) memory

abbrev pub held : (area : List ℕ) → (cards : List (List ℕ)) → (lists : List ℕ) → Head → (memory : List ℕ) → Lent
held area cards lists head memory = lent area cards lists (head_words head) memory

abbrev pub left : (area : MutWords) → (cards : MutRows) → (lists : MutWords) → Head → (memory : MutWords) → Lent
left area cards lists head memory = lent area.exit.now cards.exit.now lists.exit.now (head_words head) memory.exit.now

-- ---- the same beside a memory table that a step neither reads nor writes

-- The pieces, with each memory table that may stand beside them.
abbrev pub Beside : Type 0
Beside = (memory : List ℕ) → Lent

abbrev pub given_beside : (area : List ℕ) → (cards : List (List ℕ)) → (lists : List ℕ) → Head → Beside
given_beside area cards lists head memory = lent area cards lists (head_words head) memory

abbrev pub held_beside : (area : List ℕ) → (cards : List (List ℕ)) → (lists : List ℕ) → Head → Beside
held_beside area cards lists head memory = lent area cards lists (head_words head) memory

abbrev pub left_beside : (area : MutWords) → (cards : MutRows) → (lists : MutWords) → Head → Beside
left_beside area cards lists head memory = lent area.exit.now cards.exit.now lists.exit.now (head_words head) memory

-- The book changed, and the area only read.
abbrev pub book_left_beside : (area : Words) → (cards : MutRows) → (lists : MutWords) → Head → Beside
book_left_beside area cards lists head memory = lent area.entry.now cards.exit.now lists.exit.now (head_words head) memory
