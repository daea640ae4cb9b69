-- What serving one request leaves: the lent memory, the answer buffer, and how many bytes the reply has.
use Rattle.std.specs.Prelude.{ℕ, cond, ◌&&◌, List, eqb, length}
use Rattle.std.proofs.lemmas.List.Edits.{sets}
use Rattle.table.specs.Entry.{Entry, entry_of}
use Rattle.ldc.specs.Store.{Store}
use Rattle.ldc.specs.Lent.{Lent, store_of, lent_of}
use Rattle.ldc.specs.Request.{Request, Served, reply_bytes, key_in, value_in, tidy_kind, body_good}
use Rattle.ldc.specs.Serve.{serve}
use Rattle.compact_pick.specs.Calm.{calm_after}
use Rattle.compact_pick.specs.Plan.{plan_of}

pub record Turned : Type 0 where
  pub lent : Lent
  pub answer : List ℕ
  pub written : ℕ

abbrev pub turn : Lent → (answer : List ℕ) → (written : ℕ) → Turned
turn m answer written = record { lent = m; answer = answer; written = written }

-- As a request of this kind was served, its reply written from a position on.
unfoldable pub turned : (kind : ℕ) → Served → (answer : List ℕ) → (at : ℕ) → Turned
turned kind v answer at = record {
  lent = lent_of v.store;
  answer = sets answer at (reply_bytes kind v.result v.body);
  written = length (reply_bytes kind v.result v.body);
}

-- As the store that is lent serves a request.
unfoldable pub turned_by : Lent → Request → (answer : List ℕ) → (at : ℕ) → Turned
turned_by m q answer at = turned q.kind (serve (store_of m) q) answer at

-- The level that can have due merges once a request was served: that of a tidy's plan, after any other the same.
unfoldable pub suspect_after : (suspect : ℕ) → Store → Request → ℕ
suspect_after on s q = cond (eqb q.kind tidy_kind && body_good q.kind (length q.body)) (calm_after on (plan_of s)) on

abbrev pub request : (kind : ℕ) → (body : List ℕ) → Request
request kind body = record { kind = kind; body = body }

-- The entry that the body of a put or a delete says.
abbrev pub entry_in : (kind : ℕ) → (body : List ℕ) → Entry
entry_in kind body = entry_of kind (key_in body) (value_in body)
