-- What writing some bytes from a position on leaves, and gives: the position behind them.
use Rattle.std.specs.Prelude.{ℕ, ◌+◌, ◌≡◌, List, length}
use Rattle.std.proofs.lemmas.List.Edits.{sets}
use Rattle.book.specs.Pieces.{MutWords}

pub record Put (before : List ℕ) (at : ℕ) (bytes after : List ℕ) (r : ℕ) : Type 0 where
  pub written : after ≡ sets before at bytes
  pub behind : r ≡ at + length bytes

-- The same of a call's buffer.
abbrev pub Puts : (out : MutWords) → (at : ℕ) → (bytes : List ℕ) → (r : ℕ) → Type 0
Puts out at bytes r = Put out.entry.now at bytes out.exit.now r
