-- A list served over the program's new store. Its answers are one, wherever runs stop; they are made piece by piece, and each piece is settled by how
-- many requests were served before it.
use Rattle.std.specs.Prelude.{ℕ, zero, suc, ◌+◌, ◌*◌, ◌≤◌, ◌<◌, ◌≡◌}
use Rattle.std.specs.Prelude.{List, [], ◌∷◌, Bool, true, false, cond, length, take, drop}
use Rattle.std.proofs.lemmas.List.Edits.{sets}
use Rattle.table.specs.Limits.{place_size}
use Rattle.table.specs.Table.{zeros}
use Rattle.ldc.specs.Lists.{is_some}
use Rattle.ldc.specs.Store.{Store, new_store}
use Rattle.ldc.specs.Lent.{Lent, lent_of, chop}
use Rattle.ldc.specs.Request.{request_head_size, Request, reply_of}
use Rattle.ldc.specs.Serve.{serve}
use Rattle.ldc.specs.Run.{ServedAll, prepended, serve_all, accepted, broken_list, split}
use Rattle.serve_list.specs.Ran.{requests_of}
use Rattle.survey_deliver.specs.declared.piece.Progress.{Progress}

-- ---- a list served whole

-- The program's store: so many places of zero bytes, and this threshold.
abbrev pub program_places : ℕ
program_places = 32

abbrev pub program_threshold : ℕ
program_threshold = 4

unfoldable pub new_one : Store
new_one = new_store program_threshold (chop program_places (zeros (program_places * place_size)))

-- Serving all requests, with room for every reply: what one run gives whose answer buffer is long enough (law `one-run`).
abbrev pub serve_each : Store → List Request → ServedAll
serve_each s [] = record { store = s; bytes = []; served = 0 }
serve_each s (r ∷ rs) = prepended (reply_of r (serve s r)) (serve_each (serve s r).store rs)

-- Serving the first requests of a list, so many of them; none, where the list is broken.
unfoldable pub served_first : List ℕ → ℕ → ServedAll
served_first list n = serve_each new_one (take n (requests_of list))

-- The answers of the whole list.
unfoldable pub answers_of : List ℕ → List ℕ
answers_of list = (serve_each new_one (requests_of list)).bytes

-- These bytes are what stands in the answers behind so many bytes.
unfoldable pub Piece : List ℕ → (written : ℕ) → List ℕ → Type 0
Piece list written piece = take (length piece) (drop written (answers_of list)) ≡ piece

-- ---- the next piece

-- How many bytes requests take in a list, and the position behind the first of them, so many.
abbrev pub size_of : List Request → ℕ
size_of [] = 0
size_of (r ∷ rs) = request_head_size + length r.body + size_of rs

unfoldable pub position_of : List ℕ → ℕ → ℕ
position_of list n = size_of (take n (requests_of list))

-- A list is served so far: so many of its requests; the position is the one behind them, the bytes written are as many as their answers have, and
-- memory is that of the store after them.
pub record Reached (list : List ℕ) (m : Lent) (p : Progress) : Type 0 where
  pub counted : p.served ≤ length (requests_of list)
  pub passed : p.at ≡ position_of list p.served
  pub handed : p.written ≡ length (served_first list p.served).bytes
  pub left : m ≡ lent_of (served_first list p.served).store

-- What serving goes on to give behind the first requests, with so much room for answers.
unfoldable pub next_of : List ℕ → (served room : ℕ) → ServedAll
next_of list served room = serve_all room (served_first list served).store (drop served (requests_of list))

-- What making the next piece returns and leaves: all of it is settled by the list, how far it was served, and the buffer. A broken list is
-- refused by its number; it has no requests, so nothing is served and nothing changes.
pub record Next (list : List ℕ) (from : Progress) (answer : List ℕ) (m : Lent) (answer' : List ℕ) (number long : ℕ) (to : Progress)
    : Type 0 where
  pub numbered : number ≡ cond (is_some (split list)) accepted broken_list
  pub left : m ≡ lent_of (next_of list from.served (length answer)).store
  pub answered : answer' ≡ sets answer 0 (next_of list from.served (length answer)).bytes
  pub measured : long ≡ length (next_of list from.served (length answer)).bytes
  pub served : to.served ≡ from.served + (next_of list from.served (length answer)).served
  pub passed : to.at ≡ position_of list to.served
  pub handed : to.written ≡ from.written + long

-- ---- all pieces

-- The room for a piece.
abbrev pub piece_room : ℕ
piece_room = 4096

-- How many requests are served after so many pieces.
unfoldable pub served_after : List ℕ → (pieces : ℕ) → ℕ
served_after list zero = 0
served_after list (suc k) = served_after list k + (next_of list (served_after list k) piece_room).served

-- What running a list to its end returns. Refused lists have number 4, no request and no answer. The requests served are those of some first pieces,
-- and the bytes handed on are their answers; unless writing failed these are all, and it fails only behind a piece that was made.
pub record Told (list : List ℕ) (number served written : ℕ) (failed : Bool) : Type 0 where
  pub numbered : number ≡ cond (is_some (split list)) accepted broken_list
  pub counted : served ≤ length (requests_of list)
  pub stopped : (pieces : ℕ) × (served ≡ served_after list pieces)
  pub handed : written ≡ length (served_first list served).bytes
  pub ended : failed ≡ false → served ≡ length (requests_of list)
  pub begun : failed ≡ true → 0 < served

-- The same, and the lent memory: it is that of the store after the requests served.
pub record Finished (list : List ℕ) (m : Lent) (number served written : ℕ) (failed : Bool) : Type 0 where
  pub told : Told list number served written failed
  pub left : m ≡ lent_of (served_first list served).store
