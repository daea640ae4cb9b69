-- Request lists and answer buffers as pieces of two byte lists, told by their ends, and the history that can be read off them.
use Rattle.std.specs.Prelude.{ℕ, zero, suc, ◌+◌, ◌-◌, ◌<◌, ◌≡◌}
use Rattle.std.specs.Prelude.{List, [], ◌∷◌, ◌++◌, Bool, true, false, ◌&&◌, leb, ltb, length, get_or, take, drop}
use Rattle.std.proofs.Math.Option
use Rattle.ldc.specs.Run.{split}
use Rattle.book.specs.Pieces.{Words, MutWords}
use Rattle.ldc.specs.History.{Call, Event, replies_at, paired}

-- The request lists of all runs, one behind the other, and where each ends; their answer buffers and where each stops; how many each run served.
pub record Pieces : Type 0 where
  pub input : List ℕ
  pub ends : List ℕ
  pub answers : List ℕ
  pub stops : List ℕ
  pub served : List ℕ

abbrev pub pieces : (input ends answers stops served : List ℕ) → Pieces
pieces input ends answers stops served = record { input = input; ends = ends; answers = answers; stops = stops; served = served }

-- Those of a call: before it, and after it, with answers and numbers as they are then.
abbrev pub pieces_before : (input ends : Words) → (answers : MutWords) → (stops : Words) → (served : MutWords) → Pieces
pieces_before input ends answers stops served =
    pieces input.entry.now ends.entry.now answers.entry.now stops.entry.now served.entry.now

abbrev pub pieces_after : (input ends : Words) → (answers : MutWords) → (stops : Words) → (served : MutWords) → Pieces
pieces_after input ends answers stops served =
    pieces input.entry.now ends.entry.now answers.exit.now stops.entry.now served.exit.now

-- Piece k begins where the piece before ends.
abbrev pub start_of : (ends : List ℕ) → (k : ℕ) → ℕ
start_of ends zero = 0
start_of ends (suc k) = get_or ends k 0

unfoldable pub piece : (bytes ends : List ℕ) → (k : ℕ) → List ℕ
piece bytes ends k = take (get_or ends k 0 - start_of ends k) (drop (start_of ends k) bytes)

-- ---- how many runs there are

-- Does piece k have an end, not before its start and not beyond so many bytes?
unfoldable pub end_good : (size : ℕ) → (ends : List ℕ) → (k : ℕ) → Bool
end_good size ends k = ltb k (length ends) && (leb (start_of ends k) (get_or ends k 0) && leb (get_or ends k 0) size)

-- Are the list and the answer buffer of run k there, and room for its number?
unfoldable pub ready : (size : ℕ) (ends : List ℕ) (space : ℕ) (stops : List ℕ) (room k : ℕ) → Bool
ready size ends space stops room k = ltb k room && (end_good size ends k && end_good space stops k)

-- So many runs, from the first on, are ready.
abbrev pub AllReady : (size : ℕ) (ends : List ℕ) (space : ℕ) (stops : List ℕ) (room n : ℕ) → Type 0
AllReady size ends space stops room n = (k : ℕ) → k < n → ready size ends space stops room k ≡ true

-- So many runs are performed: all up to the first that is not ready.
pub record Runs (size : ℕ) (ends : List ℕ) (space : ℕ) (stops : List ℕ) (room n : ℕ) : Type 0 where
  pub all : AllReady size ends space stops room n
  pub last : ready size ends space stops room n ≡ false

-- ---- the history

-- The calls that the pieces say.
unfoldable pub call_at : Pieces → (k : ℕ) → Call
call_at p k = record { list = piece p.input p.ends k; answer = piece p.answers p.stops k }

abbrev pub calls_in : Pieces → (n : ℕ) → List Call
calls_in p zero = []
calls_in p (suc k) = calls_in p k ++ (call_at p k ∷ [])

-- The events that can be read off: each request of a list, with the reply that stands in the answer buffer, as many as were noted.
unfoldable pub events_at : Pieces → (k : ℕ) → List Event
events_at p k = paired (Option.get_or (split (piece p.input p.ends k)) []) (replies_at (get_or p.served k 0) (piece p.answers p.stops k) 0)

abbrev pub events_in : Pieces → (n : ℕ) → List Event
events_in p zero = []
events_in p (suc k) = events_in p k ++ events_at p k

-- How many requests were noted as served.
abbrev pub noted_in : Pieces → (n : ℕ) → ℕ
noted_in p zero = 0
noted_in p (suc k) = noted_in p k + get_or p.served k 0
