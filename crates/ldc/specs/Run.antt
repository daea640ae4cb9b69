-- Making a store, checking one, and running a list of requests over lent memory, with refusals 1 to 5. The numbers of opening stand with them.
use Rattle.std.specs.Prelude.{ℕ, zero, suc, ◌+◌, ◌-◌, Bool, cond, ◌&&◌, leb, ltb, eqb}
use Rattle.std.specs.Prelude.{List, [], ◌∷◌, ◌++◌, length, take, drop}
use Rattle.std.proofs.Math.Option.{Option, some, none, map}
use Rattle.std.proofs.lemmas.List.Edits.{sets}
use Rattle.table.specs.Entry.{length_at, kind_at}
use Rattle.ldc.specs.Lists.{is_empty}
use Rattle.ldc.specs.Store.{Store, new_store}
use Rattle.ldc.specs.Rules.{threshold_good}
use Rattle.ldc.specs.Lent.{Lent, sizes_good, places_in, chop, store_of, lent_of, broken, first_broken}
use Rattle.ldc.specs.Request.{request_head_size, Request, reply_of}
use Rattle.ldc.specs.Serve.{serve}

-- ---- the numbers of calls, each said once

abbrev pub accepted : ℕ
accepted = 0

abbrev pub wrong_sizes : ℕ
wrong_sizes = 1

abbrev pub bad_threshold : ℕ
bad_threshold = 2

abbrev pub short_answer : ℕ
short_answer = 3

abbrev pub broken_list : ℕ
broken_list = 4

-- The store is not sound.
abbrev pub unsound : ℕ
unsound = 5

-- Opening (document 02, note 4): bytes not of the form of a saved book.
abbrev pub not_a_book : ℕ
not_a_book = 21

-- Opening: an area with fewer places than saved.
abbrev pub fewer_places : ℕ
fewer_places = 22

-- ---- splitting a list

-- The longest list, in bytes.
abbrev pub list_limit : ℕ
list_limit = 65536

-- The request whose length, kind and body begin at a position.
unfoldable pub request_at : List ℕ → ℕ → Request
request_at bytes at = record { kind = kind_at bytes at; body = take (length_at bytes at - request_head_size) (drop (at + request_head_size) bytes) }

-- Does a request with a length of at least 4 stand whole at this position?
unfoldable pub whole_at : List ℕ → ℕ → Bool
whole_at bytes at =
    leb (at + request_head_size) (length bytes)
    && (leb request_head_size (length_at bytes at) && leb (at + length_at bytes at) (length bytes))

-- The requests from a position to the list's end; `none` where the lengths don't end there. (The first number only bounds how many there can be.)
abbrev pub split_at : ℕ → List ℕ → ℕ → Option (List Request)
split_at zero bytes at = cond (eqb at (length bytes)) (some []) none
split_at (suc n) bytes at =
    cond (eqb at (length bytes)) (some [])
    (cond (whole_at bytes at) (map (λ rs. request_at bytes at ∷ rs) (split_at n bytes (at + length_at bytes at))) none)

-- Number 4: over 65,536 bytes, a length below 4, or lengths not ending at the list's end.
unfoldable pub split : List ℕ → Option (List Request)
split bytes = cond (leb (length bytes) list_limit) (split_at (length bytes) bytes 0) none

-- ---- serving a list

-- An answer buffer has at least so many bytes, and a run stops before a request when fewer remain.
abbrev pub room_limit : ℕ
room_limit = 1024

-- What serving a list gives: the store after it, the answer bytes, and how many requests were served.
pub record ServedAll : Type 0 where
  pub store : Store
  pub bytes : List ℕ
  pub served : ℕ

-- The same with one more request served before, which had this reply.
abbrev pub prepended : (reply : List ℕ) → ServedAll → ServedAll
prepended reply a = record { store = a.store; bytes = reply ++ a.bytes; served = suc a.served }

abbrev pub serve_all : (room : ℕ) → Store → List Request → ServedAll
serve_all room s [] = record { store = s; bytes = []; served = 0 }
serve_all room s (r ∷ rs) =
    cond (ltb room room_limit) (record { store = s; bytes = []; served = 0 })
    (prepended (reply_of r (serve s r)) (serve_all (room - length (reply_of r (serve s r))) (serve s r).store rs))

-- ---- run

-- What a run returns and leaves: its number, requests served, bytes written, the lent memory and the answer buffer.
pub record Outcome : Type 0 where
  pub number : ℕ
  pub served : ℕ
  pub written : ℕ
  pub lent : Lent
  pub answer : List ℕ

-- Numbers 1 to 5 change nothing, write nothing, serve 0.
abbrev pub refused_run : ℕ → Lent → List ℕ → Outcome
refused_run number m answer = record { number = number; served = 0; written = 0; lent = m; answer = answer }

-- Bytes of the answer buffer beyond those written are untouched.
abbrev pub accepted_run : ServedAll → List ℕ → Outcome
accepted_run a answer = record {
  number = accepted;
  served = a.served;
  written = length a.bytes;
  lent = lent_of a.store;
  answer = sets answer 0 a.bytes;
}

abbrev pub run_split : Lent → Option (List Request) → List ℕ → Outcome
run_split m none answer = refused_run broken_list m answer
run_split m (some rs) answer =
    cond (is_empty (broken m)) (accepted_run (serve_all (length answer) (store_of m) rs) answer) (refused_run unsound m answer)

-- Refused by 1, 3, 4, 5, in this order; otherwise the requests are served in order.
unfoldable pub run : Lent → (list answer : List ℕ) → Outcome
run m list answer =
    cond (sizes_good m)
    (cond (ltb (length answer) room_limit) (refused_run short_answer m answer) (run_split m (split list) answer))
    (refused_run wrong_sizes m answer)

-- ---- check and make

-- 0, 1 or 5.
unfoldable pub check : Lent → ℕ
check m = cond (sizes_good m) (cond (is_empty (broken m)) accepted unsound) wrong_sizes

-- The letter that comes with 5 is the first broken rule in the order A to G. With every other number it is 0.
unfoldable pub letter_of : Lent → (number : ℕ) → ℕ
letter_of m number = cond (eqb number unsound) (first_broken m) 0

-- What making a store returns and leaves: 1 for sizes, then 2 for a threshold outside 1 to 8, nothing changed; otherwise a new store.
pub record Made : Type 0 where
  pub number : ℕ
  pub lent : Lent

unfoldable pub make : Lent → (threshold : ℕ) → Made
make m t =
    cond (sizes_good m)
    (cond (threshold_good t)
    (record { number = accepted; lent = lent_of (new_store t (chop (places_in m.area) m.area)) })
    (record { number = bad_threshold; lent = m }))
    (record { number = wrong_sizes; lent = m })
