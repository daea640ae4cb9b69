-- The requests of a list of bytes have bytes for a body, and a two-byte kind: each is read at some position of the list.
-- By induction on what bounds their number.
use Prim.Native.Nat.{ℕ, zero, suc, ◌+◌, ◌-◌, ◌<◌}
use mathlib.Core.Path.{◌≡◌}
use mathlib.Core.List.Memᴰ
use mathlib.Core.List.{List, [], ◌∷◌, Memᴰ}
use mathlib.Core.Logic.{⊎_elim}
use mathlib.Core.Option.{Option, some, none, map}
use lib.Dec.{leb, eqb}
use lib.ListN.{length, drop}
use Rattle.coding.specs.Number.{Bytes}
use Rattle.coding.proofs.NumberLaws.{number_at-bound, bytes_take, bytes_drop}
use Rattle.table.specs.Entry.{length_at}
use Rattle.ldc.specs.Request.{Request}
use Rattle.ldc.specs.Run.{list_limit, request_at, whole_at, split_at, split}
use Rattle.ldc.proofs.Basics.Cases.{cases}

-- A request as bytes can hold it.
abbrev pub Sent : Request → Type 0
Sent r = Bytes r.body × (r.kind < 65536)

pub sent-at : (bytes : List ℕ) (at : ℕ) → Bytes bytes → Sent (request_at bytes at)
unfolding request_at
sent-at bytes at b =
    (bytes_take (length_at bytes at - 4) (drop (at + 4) bytes) (bytes_drop (at + 4) bytes b), number_at-bound 2 bytes (at + 2) b)

-- All requests of a split, if there is one.
abbrev AllSent : Option (List Request) → Type 0
AllSent none = Unit {0}
AllSent (some rs) = (r : Request) → Memᴰ r rs → Sent r

one_more : (q : Request) (o : Option (List Request)) → Sent q → AllSent o → AllSent (map (λ rs. q ∷ rs) o)
one_more q none h g = tt
one_more q (some rs) h g = λ r m. ⊎_elim (λ e. rw e h) (g r) (Memᴰ.cases_cons m)

no_more : AllSent (some [])
no_more = λ r m. absurd (Memᴰ.not-nil m)

split_at-sent : (n : ℕ) (bytes : List ℕ) (at : ℕ) → Bytes bytes → AllSent (split_at n bytes at)
split_at-sent zero bytes at b = cases (eqb at (length bytes)) (λ q. rw q no_more) (λ q. rw q tt)
split_at-sent (suc n) bytes at b =
    let rest = split_at-sent n bytes (at + length_at bytes at) b in
    cases (eqb at (length bytes)) (λ q. rw q no_more)
    (λ q. rw q (cases (whole_at bytes at)
    (λ w. rw w (one_more (request_at bytes at) (split_at n bytes (at + length_at bytes at)) (sent-at bytes at b) rest))
    (λ w. rw w tt)))

split-sent : (bytes : List ℕ) → Bytes bytes → AllSent (split bytes)
unfolding split
split-sent bytes b = cases (leb (length bytes) list_limit) (λ q. rw q (split_at-sent (length bytes) bytes 0 b)) (λ q. rw q tt)

pub split-bytes : (bytes : List ℕ) (rs : List Request) → Bytes bytes → split bytes ≡ some rs → (r : Request) → Memᴰ r rs → Sent r
split-bytes bytes rs b q = rw q at (split-sent bytes b)
