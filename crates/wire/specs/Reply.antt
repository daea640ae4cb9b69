-- The bytes of replies, and what writing one leaves.
use Rattle.std.specs.Prelude.{ℕ, ◌+◌, ◌≤◌, ◌≡◌, List, ◌++◌, map, length}
use Rattle.std.proofs.lemmas.List.Edits.{sets}
use Rattle.std.specs.Borrow.{MutBor}
use denote.Triple.Both.{Both}
use Rattle.coding.specs.Number.{bytes_of}
use Rattle.ldc.specs.Lists.{flat}
use Rattle.ldc.specs.Request.{reply_head_size, Served, reply_bytes}
use Rattle.ldc.specs.Run.{room_limit}

-- The reply to a request of a kind, as it was served.
abbrev pub replied : (kind : ℕ) → Served → List ℕ
replied kind v = reply_bytes kind v.result v.body

-- Length of the whole, the request's kind, result.
unfoldable pub reply_head : (kind result body_length : ℕ) → List ℕ
reply_head kind result n = bytes_of 2 (reply_head_size + n) ++ bytes_of 2 kind ++ bytes_of 2 result

-- Numbers of two bytes.
unfoldable pub numbers : List ℕ → List ℕ
numbers ns = flat (map (bytes_of 2) ns)

-- The answer has room for any reply from a position on.
abbrev pub Room : (answer : List ℕ) → (at : ℕ) → Type 0
Room answer at = at + room_limit ≤ length answer

-- A reply stands in the answer from a position on, nothing else of it changed, and its length was returned.
pub record Written (before : List ℕ) (at : ℕ) (reply after : List ℕ) (r : ℕ) : Type 0 where
  pub bytes : after ≡ sets before at reply
  pub count : r ≡ length reply

-- The same of a call's answer.
abbrev pub Wrote : (answer : Both (MutBor (List ℕ)) (MutBor (List ℕ))) → (at : ℕ) → (reply : List ℕ) → (r : ℕ) → Type 0
Wrote answer at reply r = Written answer.entry.now at reply answer.exit.now r
