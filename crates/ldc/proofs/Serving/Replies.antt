-- A reply has 6 to 1,024 bytes, and says its length and its result. Its body is empty, a value, at most 16 entries behind four
-- bytes, a few two-byte numbers, or a value behind eight bytes: by the ways out of `serve`, one after the other.
use Prim.Native.Nat.{ℕ, ◌+◌, ◌≤◌, ◌<◌}
use mathlib.Core.Path.{◌≡◌, refl, ◌∙◌, ap}
use mathlib.Core.List.{List, [], ◌∷◌, ◌++◌, append_assoc}
use mathlib.Core.Bool.{◌||◌}
use mathlib.Core.Option.{Option, some, get_or}
use native.Mathlib.Omega.{arith}
use lib.Dec.{eqb, ltb}
use lib.ListN.{length, take, drop, length-append, length-take}
use Rattle.coding.specs.Number.{bytes_of}
use Rattle.coding.proofs.NumberLaws.{length-bytes_of, number_at-there}
use Rattle.table.specs.Limits.{value_limit, table_limit}
use Rattle.table.specs.Entry.{Entry, value_bytes, length_at}
use Rattle.table.specs.Search.{find}
use Rattle.table.specs.Valid.{Values}
use Rattle.table.proofs.Decode.{entries-short}
use Rattle.ldc.specs.Lists.{is_some, is_empty}
use Rattle.ldc.specs.Store.{Store, within}
use Rattle.ldc.specs.Request.{Request, Served, reply_bytes, reply_of, reply_head_size, known, body_good}
use Rattle.ldc.specs.Memtable.{serve_put}
use Rattle.ldc.specs.Place.{free_places, serve_flush}
use Rattle.ldc.specs.Read.{gather, read_order, holds_value, contents, value_of, look_up, serve_look_up, scan_limit, scan_body, serve_scan, serve_report}
use Rattle.ldc.specs.Probe.{opened, bits_in, probe_body, serve_probe}
use Rattle.ldc.specs.Tidy.{Step, idle, refused, moved, linked, merged, tidy_step}
use Rattle.ldc.specs.Steps.{step_served, serve_tidy}
use Rattle.ldc.specs.Serve.{serve_kind, serve}
use Rattle.ldc.specs.Run.{room_limit}
use Rattle.ldc.specs.History.{result_in}
use Rattle.ldc.proofs.Basics.Cases.{cases, maybe}
use Rattle.ldc.proofs.Entries.Finds.{find-gather}
use Rattle.ldc.proofs.Entries.Keys.{values-gather, values-keep, values-take}
use Rattle.ldc.proofs.Stores.ReadOrder.{read_order-values}
use Rattle.ldc.proofs.Stores.Sound.{Sound}

-- ---- the fields of a reply

pub length-reply : (kind result : ℕ) (body : List ℕ) → length (reply_bytes kind result body) ≡ 6 + length body
unfolding reply_bytes
length-reply kind result body = simp (length-append, length-bytes_of) (omega arith)

-- Where a reply stands, its length is read.
pub length-there : (kind result : ℕ) (body s : List ℕ) (at : ℕ) (rest : List ℕ) → drop at s ≡ reply_bytes kind result body ++ rest
    → length (reply_bytes kind result body) < 65536 → length_at s at ≡ length (reply_bytes kind result body)
unfolding reply_bytes
length-there kind result body s at rest e h =
    rw (length-reply kind result body)
    (number_at-there 2 (6 + length body) s at (bytes_of 2 kind ++ (bytes_of 2 result ++ (body ++ rest)))
    (e ∙ simp append_assoc) (omega (arith, length-reply kind result body)))

pub length-said : (kind result : ℕ) (body rest : List ℕ) → length (reply_bytes kind result body) < 65536
    → length_at (reply_bytes kind result body ++ rest) 0 ≡ length (reply_bytes kind result body)
length-said kind result body rest h = length-there kind result body (reply_bytes kind result body ++ rest) 0 rest refl h

pub result-said : (kind result : ℕ) (body : List ℕ) → result < 65536 → result_in (reply_bytes kind result body) ≡ result
unfolding result_in reply_bytes bytes_of
result-said kind result body h = number_at-there 2 result (reply_bytes kind result body) 4 body refl h

pub reply-least : (r : Request) (v : Served) → 6 ≤ length (reply_of r v)
unfolding reply_of
reply-least r v = omega (arith, length-reply r.kind v.result v.body)

pub reply-there : (r : Request) (v : Served) (s : List ℕ) (at : ℕ) (rest : List ℕ) → drop at s ≡ reply_of r v ++ rest
    → length (reply_of r v) < 65536 → length_at s at ≡ length (reply_of r v)
unfolding reply_of
reply-there r v s at rest e h = length-there r.kind v.result v.body s at rest e h

-- ---- values

value_found : (k : ℕ) (es : List Entry) → Values es → (v : List ℕ) → value_of (find k es) ≡ some v → length v ≤ value_limit
unfolding find
value_found k [] h v q = absurd (let z : ◌≡◌ {A = ℕ} 0 1 = cc in omega arith)
value_found k (e ∷ es) h v q =
    cases (eqb e.key k)
    (λ y. let w : value_bytes e.value ≡ v = ap value_bytes (rw y at q) in rw (← w) h.0.0)
    (λ n. value_found k es h.1 v (rw n at q))

-- ---- the ways out

-- A body that fits the room of an answer with the bytes before it, and a result that fits into two.
record Short (v : Served) : Type 0 where
  body : reply_head_size + length v.body ≤ room_limit
  result : v.result < 65536

put-short : (s : Store) (e : Entry) → Short (serve_put s e)
unfolding serve_put
put-short s e =
    cases (is_some (find e.key s.memory) || ltb (length s.memory) table_limit)
    (λ q. rw q (omega arith)) (λ q. rw q (omega arith))

flush-short : (s : Store) → Short (serve_flush s)
unfolding serve_flush
flush-short s =
    cases (is_empty s.memory) (λ q. rw q (omega arith))
    (λ q. rw q (cases (eqb (free_places s) 0) (λ r. rw r (omega arith)) (λ r. rw r (omega arith))))

step-short : (t : Step) (s : Store) → Short (step_served t s)
unfolding bytes_of
step-short idle s = omega arith
step-short refused s = omega arith
step-short (moved n p) s = omega arith
step-short (linked n p slices) s = omega arith
step-short (merged n p) s = omega arith

report-short : (s : Store) → Short (serve_report s)
unfolding serve_report bytes_of
report-short s = omega arith

-- Found, tables and bits take eight bytes before the value.
pub length-probe : (v : Option (List ℕ)) (tables bits : ℕ) → length (probe_body v tables bits) ≡ 8 + length (get_or v [])
unfolding probe_body
length-probe v tables bits = simp (length-append, length-bytes_of) (omega arith)

-- At most `scan_limit` entries, each as long as may be.
pub scan-short : (es : List Entry) → Values es → reply_head_size + length (scan_body es) ≤ room_limit
unfolding scan_body
scan-short es h =
    let n : length (take scan_limit es) ≤ scan_limit = rw length-take (omega arith) in
    simp (length-append, length-bytes_of) (omega (arith, entries-short (take scan_limit es) (values-take scan_limit es h)))

module _ (s : Store) (S : Sound s) where
  -- what the store gives, has short values
  pub contents-values : Values (contents s)
  unfolding contents
  contents-values = values-keep holds_value (gather (read_order s)) (values-gather (read_order s) (read_order-values s S))

  found-short : (k : ℕ) (v : List ℕ) → look_up s k ≡ some v → length v ≤ value_limit
  unfolding look_up
  found-short k v q =
      value_found k (gather (read_order s)) (values-gather (read_order s) (read_order-values s S)) v
      (ap value_of (find-gather k (read_order s)) ∙ q)

  look-short : (k : ℕ) → Short (serve_look_up s k)
  unfolding serve_look_up
  look-short k = maybe (look_up s k) (λ q. rw q (omega arith)) (λ v q. rw q (omega (arith, found-short k v q)))

  scans-short : (low high : ℕ) → Short (serve_scan s low high)
  unfolding serve_scan within
  scans-short low high =
      cases (ltb high low) (λ q. rw q (omega arith))
      (λ q. let b = scan-short (within low high (contents s)) (values-keep _ (contents s) contents-values) in rw q (omega arith))

  probe-short : (k : ℕ) → Short (serve_probe s k)
  unfolding serve_probe
  probe-short k =
      let long : length (get_or (look_up s k) []) ≤ value_limit =
      maybe (look_up s k) (λ q. rw q (omega arith)) (λ v q. rw q (found-short k v q)) in
      let n = length-probe (look_up s k) (length (opened s k)) (bits_in s (opened s k)) in
      record { body = omega (arith, n, long); result = omega arith }

  kind-short : (kind : ℕ) (body : List ℕ) → Short (serve_kind s kind body)
  unfolding serve_kind serve_tidy
  kind-short kind body =
      cases (eqb kind 1) (λ q. rw q (put-short s _))
      (λ q. rw q (cases (eqb kind 2) (λ q. rw q (put-short s _))
      (λ q. rw q (cases (eqb kind 3) (λ q. rw q (look-short _))
      (λ q. rw q (cases (eqb kind 4) (λ q. rw q (scans-short _ _))
      (λ q. rw q (cases (eqb kind 5) (λ q. rw q (flush-short s))
      (λ q. rw q (cases (eqb kind 6) (λ q. rw q (step-short (tidy_step s) s))
      (λ q. rw q (cases (eqb kind 8) (λ q. rw q (probe-short _))
      (λ q. rw q (report-short s))))))))))))))

  serve-short : (r : Request) → Short (serve s r)
  unfolding serve
  serve-short r =
      cases (known r.kind)
      (λ q. rw q (cases (body_good r.kind (length r.body)) (λ q. rw q (kind-short r.kind r.body)) (λ q. rw q (omega arith))))
      (λ q. rw q (omega arith))

  pub reply-short : (r : Request) → length (reply_of r (serve s r)) ≤ room_limit
  unfolding reply_of
  reply-short r = omega (arith, length-reply r.kind (serve s r).result (serve s r).body, (serve-short r).body)

  -- the result in a reply is the one of serving
  pub reply-result : (r : Request) → result_in (reply_of r (serve s r)) ≡ (serve s r).result
  unfolding reply_of
  reply-result r = result-said r.kind (serve s r).result (serve s r).body (serve-short r).result
