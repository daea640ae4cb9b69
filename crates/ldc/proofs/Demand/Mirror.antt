-- The store mirrors the latest-write map: every key has the map's value. So the store's contents, in one rising list, are the map, and look-ups,
-- probes and scans answer as it does.
use Prim.Native.Nat.{ℕ, ◌^◌}
use mathlib.Core.Path.{◌≡◌, refl, sym, ◌∙◌, ap}
use mathlib.Core.List.{List, [], ◌∷◌}
use mathlib.Core.Bool.{Bool, true, false, ◌&&◌}
use mathlib.Core.Option.{Option, some, none}
use native.Mathlib.Omega.{arith}
use borrow.Author.Tests.{eqb-true, eq-eqb, le-leb, lt-leb, ltb-true, ltb-false}
use lib.Dec.{leb, ltb, eqb}
use lib.ListN.{length}
use Rattle.coding.specs.Number.{bytes_of}
use Rattle.table.specs.Entry.{Entry}
use Rattle.table.specs.Search.{find}
use Rattle.table.specs.Valid.{Keys}
use Rattle.ldc.specs.Lists.{all, keep, flat, is_some}
use Rattle.ldc.specs.Store.{Store, within}
use Rattle.ldc.specs.Request.{Request, known, body_good, key_in, high_in, value_in, only, reply_bytes, reply_of}
use Rattle.ldc.specs.Memtable.{put, serve_put}
use Rattle.ldc.specs.Place.{serve_flush}
use Rattle.ldc.specs.Read.{read_order, gather, holds_value, value_of, contents, look_up, look_up_served, serve_look_up, scan_body, serve_scan, serve_report}
use Rattle.ldc.specs.Probe.{opened, bits_in, probe_body, serve_probe}
use Rattle.ldc.specs.Steps.{serve_tidy}
use Rattle.ldc.specs.Serve.{serve}
use Rattle.ldc.specs.History.{without_counts, compared, map_look_up, map_probe, map_reply, Agrees}
use Rattle.ldc.proofs.Basics.Cases.{cases, clash, both_left, both_right}
use Rattle.ldc.proofs.Entries.Finds.{find-gather}
use Rattle.ldc.proofs.Entries.Keys.{passing, find-keep, keys-gather, keys-keep, keys-ext}
use Rattle.ldc.proofs.Stores.Order.{view}
use Rattle.ldc.proofs.Stores.ReadOrder.{read_order-keys}
use Rattle.ldc.proofs.Serving.ServeCases.{serve-cases}
use Rattle.ldc.proofs.Stores.Sound.{Sound}

pub record Mirrors (s : Store) (m : List Entry) : Type 0 where
  -- every key has the value that the map has
  pub values : (k : ℕ) → value_of (view s k) ≡ value_of (find k m)
  -- the map's keys rise, and it holds values alone
  pub keys : Keys 0 (2 ^ 64) m
  pub held : all holds_value m ≡ true

three-false : (a b c : Bool) → (a && b) ≡ false → (a && (b && c)) ≡ false
three-false true b c h = rw h
three-false false b c h = refl

-- What is found under a key has that key.
pub find-key : (k : ℕ) (es : List Entry) (e : Entry) → find k es ≡ some e → e.key ≡ k
unfolding find
find-key k [] e h = absurd (let z : ◌≡◌ {A = ℕ} 0 1 = cc in omega arith)
find-key k (f ∷ es) e h =
    cases (eqb f.key k)
    (λ q. let h' : ◌≡◌ {A = Option Entry} (some f) (some e) = rw q at h in let fe : f ≡ e = cc in rw (← fe) (eqb-true f.key k q))
    (λ q. find-key k es e (rw q at h))

find-held : (k : ℕ) (es : List Entry) (e : Entry) → all holds_value es ≡ true → find k es ≡ some e → is_some e.value ≡ true
unfolding find
find-held k [] e a h = absurd (let z : ◌≡◌ {A = ℕ} 0 1 = cc in omega arith)
find-held k (f ∷ es) e a h =
    cases (eqb f.key k)
    (λ q. let h' : ◌≡◌ {A = Option Entry} (some f) (some e) = rw q at h in let fe : f ≡ e = cc in rw (← fe) (both_left (holds_value f) (all holds_value es) a))
    (λ q. find-held k es e (both_right (holds_value f) (all holds_value es) a) (rw q at h))

-- Two entries under one key with one value are one.
same-entry : (e f : Entry) → e.key ≡ f.key → e.value ≡ f.value → e ≡ f
same-entry e f p q = λ i. record { key = p i; value = q i }

-- The entry that decides, if it holds a value, is the map's.
value-entry : (k : ℕ) (o p : Option Entry) → value_of o ≡ value_of p → ((e : Entry) → o ≡ some e → e.key ≡ k) → ((e : Entry) → p ≡ some e → (e.key ≡ k) × (is_some e.value ≡ true))
    → passing holds_value o ≡ p
value-entry k none none h a b = refl
value-entry k (some e) none h a b = rw (ap is_some h)
value-entry k none (some f) h a b = clash (b f refl).1 (ap is_some (sym h))
value-entry k (some e) (some f) h a b =
    rw (ap is_some h ∙ (b f refl).1) (ap some (same-entry e f (a e refl ∙ sym (b f refl).0) h))

module _ (s : Store) (S : Sound s) (m : List Entry) (M : Mirrors s m) where
  gathered-keys : Keys 0 (2 ^ 64) (gather (read_order s))
  gathered-keys = keys-gather 0 (2 ^ 64) (read_order s) (read_order-keys s S)

  pub mirror-contents : contents s ≡ m
  unfolding contents
  mirror-contents =
      keys-ext 0 (2 ^ 64) (keep holds_value (gather (read_order s))) m (keys-keep 0 (2 ^ 64) holds_value (gather (read_order s)) gathered-keys) M.keys
      (λ k. find-keep k 0 (2 ^ 64) holds_value (gather (read_order s)) gathered-keys
      ∙ ap (passing holds_value) (find-gather k (read_order s))
      ∙ value-entry k (view s k) (find k m) (M.values k) (λ e q. find-key k (flat (read_order s)) e q)
      (λ e q. (find-key k m e q, find-held k m e M.held q)))

  -- ---- look-ups and scans

  look-reply : (kind : ℕ) → kind ≡ 3 → (o : Option (List ℕ)) → reply_bytes kind (look_up_served s o).result (look_up_served s o).body ≡ map_look_up o
  look-reply kind e none = rw e
  look-reply kind e (some v) = rw e

  module _ (r : Request) where
    -- the map says nothing of other requests
    silent : (b : List ℕ) → (eqb r.kind 3 && eqb (length r.body) 8) ≡ false → (eqb r.kind 8 && eqb (length r.body) 8) ≡ false
        → (eqb r.kind 4 && eqb (length r.body) 16) ≡ false → Agrees (map_reply m r) b
    unfolding map_reply
    silent b no3 no8 no4 =
        let z : (eqb r.kind 4 && (eqb (length r.body) 16 && leb (key_in r.body) (high_in r.body))) ≡ false =
        three-false (eqb r.kind 4) (eqb (length r.body) 16) (leb (key_in r.body) (high_in r.body)) no4 in
        rw (no3, no8, z) tt

    other-kind : (b : List ℕ) (n : ℕ) → r.kind ≡ n → eqb n 3 ≡ false → eqb n 8 ≡ false → eqb n 4 ≡ false → Agrees (map_reply m r) b
    other-kind b n e no3 no8 no4 = silent b (rw (e, no3)) (rw (e, no8)) (rw (e, no4))

    silent-unknown : (b : List ℕ) → known r.kind ≡ false → Agrees (map_reply m r) b
    unfolding known
    silent-unknown b k =
        silent b
        (cases (eqb r.kind 3) (λ q. let e : r.kind ≡ 3 = eqb-true r.kind 3 q in clash (rw e) k) (λ q. rw q))
        (cases (eqb r.kind 8) (λ q. let e : r.kind ≡ 8 = eqb-true r.kind 8 q in clash (rw e) k) (λ q. rw q))
        (cases (eqb r.kind 4) (λ q. let e : r.kind ≡ 4 = eqb-true r.kind 4 q in clash (rw e) k) (λ q. rw q))

    silent-misfit : (b : List ℕ) → body_good r.kind (length r.body) ≡ false → Agrees (map_reply m r) b
    unfolding body_good
    silent-misfit b k =
        silent b
        (cases (eqb r.kind 3) (λ q. let e : r.kind ≡ 3 = eqb-true r.kind 3 q in rw e (rw e at k)) (λ q. rw q))
        (cases (eqb r.kind 8) (λ q. let e : r.kind ≡ 8 = eqb-true r.kind 8 q in rw e (rw e at k)) (λ q. rw q))
        (cases (eqb r.kind 4) (λ q. let e : r.kind ≡ 4 = eqb-true r.kind 4 q in rw e (rw e at k)) (λ q. rw q))

    look-agrees : r.kind ≡ 3 → length r.body ≡ 8 → Agrees (map_reply m r) (compared r (reply_of r (serve_look_up s (key_in r.body))))
    unfolding map_reply serve_look_up reply_of look_up compared
    look-agrees k n =
        let no8 : eqb r.kind 8 ≡ false = rw k in
        rw (no8, eq-eqb r.kind 3 k, eq-eqb (length r.body) 8 n)
        (look-reply r.kind k (value_of (view s (key_in r.body))) ∙ ap map_look_up (M.values (key_in r.body)))

    -- the counts of a probe stand between found and the value
    counts-out : (kind : ℕ) (v : Option (List ℕ)) (tables bits : ℕ)
        → without_counts (reply_bytes kind 0 (probe_body v tables bits)) ≡ without_counts (reply_bytes kind 0 (probe_body v 0 0))
    unfolding without_counts reply_bytes probe_body bytes_of
    counts-out kind v tables bits = refl

    probe-agrees : r.kind ≡ 8 → length r.body ≡ 8 → Agrees (map_reply m r) (compared r (reply_of r (serve_probe s (key_in r.body))))
    unfolding map_reply serve_probe reply_of look_up compared
    probe-agrees k n =
        let no3 : eqb r.kind 3 ≡ false = rw k in
        rw (no3, eq-eqb r.kind 8 k, eq-eqb (length r.body) 8 n, k)
        (counts-out 8 (value_of (view s (key_in r.body))) (length (opened s (key_in r.body))) (bits_in s (opened s (key_in r.body)))
        ∙ ap map_probe (M.values (key_in r.body)))

    scan-agrees : r.kind ≡ 4 → length r.body ≡ 16 → Agrees (map_reply m r) (compared r (reply_of r (serve_scan s (key_in r.body) (high_in r.body))))
    unfolding map_reply serve_scan reply_of compared
    scan-agrees k n =
        cases (ltb (high_in r.body) (key_in r.body))
        (λ q. let z : leb (key_in r.body) (high_in r.body) ≡ false = lt-leb (key_in r.body) (high_in r.body) (ltb-true (high_in r.body) (key_in r.body) q) in
        rw (k, eq-eqb (length r.body) 16 n, z) tt)
        (λ q. let z : leb (key_in r.body) (high_in r.body) ≡ true = le-leb (key_in r.body) (high_in r.body) (ltb-false (high_in r.body) (key_in r.body) q) in
        rw (k, eq-eqb (length r.body) 16 n, z, q) (ap (λ (es : List Entry). reply_bytes 4 0 (scan_body (within (key_in r.body) (high_in r.body) es))) mirror-contents))

    pub mirror-answers : Agrees (map_reply m r) (compared r (reply_of r (serve s r)))
    mirror-answers = serve-cases s r (λ v. Agrees (map_reply m r) (compared r (reply_of r v))) (record {
      unknown = λ k. silent-unknown (compared r (reply_of r (only 16 s))) k;
      misfit = λ k b. silent-misfit (compared r (reply_of r (only 17 s))) b;
      put = λ k lo hi. other-kind (compared r (reply_of r (serve_put s (record { key = key_in r.body; value = some (value_in r.body) })))) 1 k refl refl refl;
      delete = λ k n. other-kind (compared r (reply_of r (serve_put s (record { key = key_in r.body; value = none })))) 2 k refl refl refl;
      look = look-agrees;
      scan = scan-agrees;
      flush = λ k n. other-kind (compared r (reply_of r (serve_flush s))) 5 k refl refl refl;
      tidy = λ k n. other-kind (compared r (reply_of r (serve_tidy s))) 6 k refl refl refl;
      probe = probe-agrees;
      report = λ k n. other-kind (compared r (reply_of r (serve_report s))) 7 k refl refl refl;
    })
