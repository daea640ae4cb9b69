-- Requests and replies (document 01): kinds, body lengths, results, and their bytes.
use Rattle.std.specs.Prelude.{ℕ, ◌+◌, ◌*◌, List, [], ◌++◌, Bool, cond, ◌&&◌, ◌||◌, leb, eqb, length, drop}
use Rattle.coding.specs.Number.{number_at, bytes_of}
use Rattle.table.specs.Limits.{value_limit}
use Rattle.ldc.specs.Store.{Store}

-- ---- the numbers, each said once

-- The kinds of requests.
abbrev pub put_kind : ℕ
put_kind = 1

abbrev pub delete_kind : ℕ
delete_kind = 2

abbrev pub look_up_kind : ℕ
look_up_kind = 3

abbrev pub scan_kind : ℕ
scan_kind = 4

abbrev pub flush_kind : ℕ
flush_kind = 5

abbrev pub tidy_kind : ℕ
tidy_kind = 6

abbrev pub report_kind : ℕ
report_kind = 7

abbrev pub probe_kind : ℕ
probe_kind = 8

-- The results: done; refused by 16 to 20; done, with 64 or 65 for nothing found or nothing to do.
abbrev pub done_result : ℕ
done_result = 0

abbrev pub unknown_kind : ℕ
unknown_kind = 16

abbrev pub wrong_length : ℕ
wrong_length = 17

-- A new key when the memory table is full.
abbrev pub memory_full : ℕ
memory_full = 18

-- A scan with low above high.
abbrev pub bad_range : ℕ
bad_range = 19

-- Free places fewer than a flush or a merge writes.
abbrev pub no_room : ℕ
no_room = 20

abbrev pub no_value : ℕ
no_value = 64

abbrev pub nothing_to_do : ℕ
nothing_to_do = 65

-- The bytes of a request before its body (length, kind), those of a reply (length, kind, result), and those of a key in a body.
abbrev pub request_head_size : ℕ
request_head_size = 4

abbrev pub reply_head_size : ℕ
reply_head_size = 6

abbrev pub key_size : ℕ
key_size = 8

-- ---- requests and replies

-- A request is length, kind, body; the length follows from the body.
pub record Request : Type 0 where
  pub kind : ℕ
  pub body : List ℕ

-- What serving a request gives: the store after it, the result, and the body of the reply.
pub record Served : Type 0 where
  pub store : Store
  pub result : ℕ
  pub body : List ℕ

-- A reply is length, the request's kind, result (2 bytes), body.
unfoldable pub reply_bytes : (kind result : ℕ) → List ℕ → List ℕ
reply_bytes kind result body = bytes_of 2 (reply_head_size + length body) ++ bytes_of 2 kind ++ bytes_of 2 result ++ body

unfoldable pub reply_of : Request → Served → List ℕ
reply_of r v = reply_bytes r.kind v.result v.body

unfoldable pub known : (kind : ℕ) → Bool
known kind = leb put_kind kind && leb kind probe_kind

-- The body that each kind has: put key and value; delete, look-up and probe a key; scan low and high key; the others none.
unfoldable pub body_good : (kind length : ℕ) → Bool
body_good kind len =
    cond (eqb kind put_kind) (leb key_size len && leb len (key_size + value_limit))
    (cond (eqb kind delete_kind || (eqb kind look_up_kind || eqb kind probe_kind)) (eqb len key_size)
    (cond (eqb kind scan_kind) (eqb len (2 * key_size)) (eqb len 0)))

-- The first and the second key in a body, and the value behind the first.
unfoldable pub key_in : List ℕ → ℕ
key_in body = number_at key_size body 0

unfoldable pub high_in : List ℕ → ℕ
high_in body = number_at key_size body key_size

unfoldable pub value_in : List ℕ → List ℕ
value_in body = drop key_size body

-- Done, with a body; another result, with none and the store as it was.
abbrev pub done : Store → List ℕ → Served
done s body = record { store = s; result = done_result; body = body }

abbrev pub only : ℕ → Store → Served
only result s = record { store = s; result = result; body = [] }
