-- What demand 3 is measured by (document 01): a history of runs, the latest-write map, and the slice list.
use Rattle.std.specs.Prelude.{ℕ, zero, suc, ◌+◌, ◌*◌, ◌≤◌, ◌<◌, ◌≡◌, Bool, cond, not, ◌&&◌, leb, eqb}
use Rattle.std.specs.Prelude.{length, take, drop}
use mathlib.Core.List.{List, [], ◌∷◌, ◌++◌, map, Memᴰ}
use Rattle.std.proofs.Math.Option.{Option, some, none, get_or}
use Rattle.coding.specs.Number.{number_at}
use Rattle.table.specs.Entry.{Entry, length_at}
use Rattle.table.specs.Table.{entries}
use Rattle.table.specs.Search.{find}
use Rattle.ldc.specs.Lists.{any, keep}
use Rattle.ldc.specs.Store.{Link, Store, new_store, card, links, is_frozen, bytes_at, within}
use Rattle.ldc.specs.Lent.{Lent, store_of, places_in, broken}
use Rattle.ldc.specs.Request.{put_kind, delete_kind, look_up_kind, scan_kind, tidy_kind, probe_kind, done_result, no_value, key_size}
use Rattle.ldc.specs.Request.{Request, reply_bytes, key_in, high_in, value_in}
use Rattle.ldc.specs.Memtable.{put}
use Rattle.ldc.specs.Read.{value_of, scan_body}
use Rattle.ldc.specs.Probe.{probe_body}
use Rattle.ldc.specs.Tidy.{Slice, Step, idle, refused, moved, linked, merged, tidy_step}
use Rattle.ldc.specs.Steps.{link_to}
use Rattle.ldc.specs.Serve.{serve}
use Rattle.ldc.specs.Run.{Outcome, run, split}

-- ---- a history: runs, one after the other

-- A run's request list and answer buffer.
pub record Call : Type 0 where
  pub list : List ℕ
  pub answer : List ℕ

-- A request served, with its reply.
pub record Event : Type 0 where
  pub request : Request
  pub reply : List ℕ

-- The replies that stand in an answer buffer, one behind the other.
abbrev pub replies_at : (n : ℕ) → List ℕ → (at : ℕ) → List (List ℕ)
replies_at zero bytes at = []
replies_at (suc n) bytes at = take (length_at bytes at) (drop at bytes) ∷ replies_at n bytes (at + length_at bytes at)

-- Requests with their replies; those behind a stop have none, and are not among them.
abbrev pub paired : List Request → List (List ℕ) → List Event
paired [] replies = []
paired (r ∷ rs) [] = []
paired (r ∷ rs) (b ∷ bs) = record { request = r; reply = b } ∷ paired rs bs

-- The requests that a run served. A refused run serves none.
unfoldable pub events_of : List ℕ → Outcome → List Event
events_of list o = paired (get_or (split list) []) (replies_at o.served o.answer 0)

-- Each run gets the area and book as the run before left them.
abbrev pub lent_after : Lent → List Call → Lent
lent_after m [] = m
lent_after m (c ∷ cs) = lent_after (run m c.list c.answer).lent cs

-- The requests served in all runs, in order.
abbrev pub events : Lent → List Call → List Event
events m [] = []
events m (c ∷ cs) = events_of c.list (run m c.list c.answer) ++ events (run m c.list c.answer).lent cs

-- How many the runs say they served.
abbrev pub served_in : Lent → List Call → ℕ
served_in m [] = 0
served_in m (c ∷ cs) = (run m c.list c.answer).served + served_in (run m c.list c.answer).lent cs

-- ---- the latest-write map

-- Values under keys, as entries, keys rising. It is fed the requests and, for puts and deletes alone, the result in the reply.
unfoldable pub result_in : List ℕ → ℕ
result_in reply = number_at 2 reply 4

unfoldable pub fed : Event → List Entry → List Entry
fed e m =
    cond (eqb e.request.kind put_kind && eqb (result_in e.reply) done_result)
    (put (record { key = key_in e.request.body; value = some (value_in e.request.body) }) m)
    (cond (eqb e.request.kind delete_kind && eqb (result_in e.reply) done_result)
    (keep (λ x. not (eqb x.key (key_in e.request.body))) m)
    m)

-- The reply that the map gives to a look-up: 0 and the value, or 64.
abbrev pub map_look_up : Option (List ℕ) → List ℕ
map_look_up (some v) = reply_bytes look_up_kind done_result v
map_look_up none = reply_bytes look_up_kind no_value []

-- A reply to a probe without its two counts, which no map knows: length, kind, result and found (8 bytes), then what stands behind the counts (6).
unfoldable pub without_counts : List ℕ → List ℕ
without_counts reply = take 8 reply ++ drop 14 reply

-- What of a reply is compared with the map's: all of it, but of a reply to a probe not the counts.
unfoldable pub compared : Request → List ℕ → List ℕ
compared r reply = cond (eqb r.kind probe_kind) (without_counts reply) reply

-- What the map gives of a reply to a probe: all but the two counts, so found and the value.
abbrev pub map_probe : Option (List ℕ) → List ℕ
map_probe v = without_counts (reply_bytes probe_kind done_result (probe_body v 0 0))

-- The reply that the map gives: to look-ups, probes and scans of the right length, low not above high. It says nothing of other requests.
unfoldable pub map_reply : List Entry → Request → Option (List ℕ)
map_reply m r =
    cond (eqb r.kind look_up_kind && eqb (length r.body) key_size)
    (some (map_look_up (value_of (find (key_in r.body) m))))
    (cond (eqb r.kind probe_kind && eqb (length r.body) key_size)
    (some (map_probe (value_of (find (key_in r.body) m))))
    (cond (eqb r.kind scan_kind && (eqb (length r.body) (2 * key_size) && leb (key_in r.body) (high_in r.body)))
    (some (reply_bytes scan_kind done_result (scan_body (within (key_in r.body) (high_in r.body) m))))
    none))

abbrev pub Agrees : Option (List ℕ) → List ℕ → Type 0
Agrees none reply = Unit {0}
Agrees (some right) reply = reply ≡ right

-- Every reply is the one that the map then gives, byte for byte, but for the counts of a probe, which are those that the rules give.
abbrev pub Answered : List Entry → List Event → Type 0
Answered m [] = Unit {0}
Answered m (e ∷ es) = Agrees (map_reply m e.request) (compared e.request e.reply) × Answered (fed e m) es

-- ---- the slice list

-- A slice that has not been merged yet, with the bytes that its place held when it was linked.
pub record Unmerged : Type 0 where
  pub slice : Slice
  pub held : List ℕ

-- The step that a request does.
unfoldable pub step_of : Store → Request → Step
step_of s r = cond (eqb r.kind tidy_kind && eqb (length r.body) 0) (tidy_step s) idle

-- Does a slice hang on this place?
abbrev pub hangs_on : (place : ℕ) → Unmerged → Bool
hangs_on p u = eqb u.slice.on p

-- A link adds each link that it makes. A merge takes away all that hang on the merged table's place. Nothing else changes the list.
abbrev pub after_step : Store → Step → List Unmerged → List Unmerged
after_step s idle us = us
after_step s refused us = us
after_step s (moved n p) us = us
after_step s (linked n p slices) us = us ++ map (λ x. record { slice = x; held = bytes_at s p }) slices
after_step s (merged n p) us = keep (λ u. not (hangs_on p u)) us

-- The rules worked through a list of requests, from a store on.
abbrev pub unmerged : Store → List Unmerged → List Request → List Unmerged
unmerged s us [] = us
unmerged s us (r ∷ rs) = unmerged (serve s r).store (after_step s (step_of s r) us) rs

-- ---- where a history starts

-- A map, a slice list, and the store from which the rules are worked through. For what is lent at the start the three must agree: the map
-- has the values that the store has, and the list the slices that hang on its places.
pub record Start : Type 0 where
  pub values : List Entry
  pub slices : List Unmerged
  pub store : Store

-- A store made anew: no values, no slices. The slice list is worked out over other places, as many, with any bytes: nothing of it is read
-- from the store that was run.
abbrev pub new_start : (threshold : ℕ) → (places : List (List ℕ)) → Start
new_start t places = record { values = []; slices = []; store = new_store t places }

abbrev pub requests_in : List Event → List Request
requests_in [] = []
requests_in (e ∷ es) = e.request ∷ requests_in es

-- The map fed all events.
abbrev pub fed_all : List Event → List Entry → List Entry
fed_all [] m = m
fed_all (e ∷ es) m = fed_all es (fed e m)

-- The store after all of some requests.
abbrev pub serve_list : Store → List Request → Store
serve_list s [] = s
serve_list s (r ∷ rs) = serve_list (serve s r).store rs

-- The start that a history leaves for what follows it.
unfoldable pub start_after : Start → List Event → Start
start_after x es = record {
  values = fed_all es x.values;
  slices = unmerged x.store x.slices (requests_in es);
  store = serve_list x.store (requests_in es);
}

-- ---- demand 3

-- The link to an unmerged slice: its number is that of the entries in its range of the bytes held when linked.
abbrev pub link_of : Unmerged → Link
link_of u = link_to (entries u.held) u.slice

-- The claim about the replies and the memory at the end of a history from a start, given the slice list: `m` is what is lent at the end.
pub record Holds (x : Start) (es : List Event) (us : List Unmerged) (m : Lent) : Type 0 where
  -- look-ups, probes and scans answer as the latest-write map
  pub answered : Answered x.values es
  -- the memory is that of a sound store: every word of it is where and what the rules allow
  pub sound : broken m ≡ []
  -- a card says frozen exactly if the list names the place
  pub frozen : (p : ℕ) → p < places_in m.area → is_frozen (card (store_of m) p) ≡ any (λ u. eqb u.slice.place p) us
  -- a frozen place has the bytes that it held when linked
  pub kept : (u : Unmerged) → Memᴰ u us → bytes_at (store_of m) u.slice.place ≡ u.held
  -- a card's links are the slices that hang on its place, oldest first, their numbers too: on every place, so none hangs where no live table stands
  pub carried : (p : ℕ) → links (store_of m) p ≡ map link_of (keep (hangs_on p) us)
  -- never more than T slices hang on a table, nor links on its card
  pub few : (p : ℕ) → length (keep (hangs_on p) us) ≤ x.store.threshold
  pub few_links : (p : ℕ) → length (links (store_of m) p) ≤ x.store.threshold

-- Demand 3 of a history over the lent memory `m`, from a start that agrees with it.
pub record Demand3 (x : Start) (m : Lent) (calls : List Call) : Type 0 where
  -- no request that was served is left out
  pub complete : length (events m calls) ≡ served_in m calls
  pub holds : Holds x (events m calls) (start_after x (events m calls)).slices (lent_after m calls)
