-- Serving, by cases: what holds of each kind of answer holds of every one. Each case knows the kind and the body's length.
use Prim.Native.Nat.{ℕ, ◌+◌, ◌≤◌}
use mathlib.Core.Path.{◌≡◌}
use mathlib.Core.Bool.{true, false, cond, ◌&&◌}
use mathlib.Core.Option.{some, none}
use native.Mathlib.Omega.{arith}
use borrow.Author.Tests.{leb-true, eqb-true, eqb-false}
use lib.Dec.{leb, eqb}
use lib.ListN.{length}
use Rattle.table.specs.Limits.{value_limit}
use Rattle.ldc.specs.Store.{Store}
use Rattle.ldc.specs.Request.{Request, Served, known, body_good, key_in, high_in, value_in, only}
use Rattle.ldc.specs.Memtable.{serve_put}
use Rattle.ldc.specs.Place.{serve_flush}
use Rattle.ldc.specs.Read.{serve_look_up, serve_scan, serve_report}
use Rattle.ldc.specs.Probe.{serve_probe}
use Rattle.ldc.specs.Steps.{serve_tidy}
use Rattle.ldc.specs.Serve.{serve_kind, serve}
use Rattle.ldc.proofs.Basics.Cases.{cases, both_left, both_right}

-- A property of every way to serve a request.
pub record Ways (s : Store) (r : Request) (P : Served → Type 0) : Type 0 where
  pub unknown : known r.kind ≡ false → P (only 16 s)
  pub misfit : known r.kind ≡ true → body_good r.kind (length r.body) ≡ false → P (only 17 s)
  pub put : r.kind ≡ 1 → 8 ≤ length r.body → length r.body ≤ 8 + value_limit → P (serve_put s (record { key = key_in r.body; value = some (value_in r.body) }))
  pub delete : r.kind ≡ 2 → length r.body ≡ 8 → P (serve_put s (record { key = key_in r.body; value = none }))
  pub look : r.kind ≡ 3 → length r.body ≡ 8 → P (serve_look_up s (key_in r.body))
  pub scan : r.kind ≡ 4 → length r.body ≡ 16 → P (serve_scan s (key_in r.body) (high_in r.body))
  pub flush : r.kind ≡ 5 → length r.body ≡ 0 → P (serve_flush s)
  pub tidy : r.kind ≡ 6 → length r.body ≡ 0 → P (serve_tidy s)
  pub probe : r.kind ≡ 8 → length r.body ≡ 8 → P (serve_probe s (key_in r.body))
  pub report : r.kind ≡ 7 → length r.body ≡ 0 → P (serve_report s)

-- Of kinds 1 to 8 the one that is no other than 7.
past-four : (n : ℕ) → 1 ≤ n → (n ≡ 1 → ⊥) → (n ≡ 2 → ⊥) → (n ≡ 3 → ⊥) → (n ≡ 4 → ⊥) → 5 ≤ n
past-four n lo a b c d = omega arith

seventh : (n : ℕ) → 5 ≤ n → n ≤ 8 → (n ≡ 5 → ⊥) → (n ≡ 6 → ⊥) → (n ≡ 8 → ⊥) → n ≡ 7
seventh n lo hi a b c = omega arith

module _ (s : Store) (r : Request) (P : Served → Type 0) (w : Ways s r P) (k : known r.kind ≡ true) (b : body_good r.kind (length r.body) ≡ true) where
  -- kinds 5 to 7 have no body
  last : eqb r.kind 1 ≡ false → eqb r.kind 2 ≡ false → eqb r.kind 3 ≡ false → eqb r.kind 4 ≡ false → eqb r.kind 8 ≡ false
      → P (cond (eqb r.kind 5) (serve_flush s) (cond (eqb r.kind 6) (serve_tidy s) (serve_report s)))
  unfolding body_good known
  last n1 n2 n3 n4 n8 =
      let z : length r.body ≡ 0 = eqb-true (length r.body) 0 (rw (n1, n2, n3, n4, n8) at b) in
      cases (eqb r.kind 5)
      (λ q. rw q (w.flush (eqb-true r.kind 5 q) z))
      (λ q. cases (eqb r.kind 6)
      (λ t. rw (q, t) (w.tidy (eqb-true r.kind 6 t) z))
      (λ t. rw (q, t) (w.report
      (seventh r.kind
      (past-four r.kind (leb-true 1 r.kind (both_left (leb 1 r.kind) (leb r.kind 8) k))
      (eqb-false r.kind 1 n1) (eqb-false r.kind 2 n2) (eqb-false r.kind 3 n3) (eqb-false r.kind 4 n4))
      (leb-true r.kind 8 (both_right (leb 1 r.kind) (leb r.kind 8) k))
      (eqb-false r.kind 5 q) (eqb-false r.kind 6 t) (eqb-false r.kind 8 n8)) z)))

  -- kind 8 is no other
  probe-way : eqb r.kind 1 ≡ false → eqb r.kind 2 ≡ false → eqb r.kind 3 ≡ false → eqb r.kind 8 ≡ true
      → P (cond (eqb r.kind 5) (serve_flush s) (cond (eqb r.kind 6) (serve_tidy s) (cond (eqb r.kind 8) (serve_probe s (key_in r.body)) (serve_report s))))
  unfolding body_good
  probe-way n1 n2 n3 q =
      let e : r.kind ≡ 8 = eqb-true r.kind 8 q in
      let n5 : eqb r.kind 5 ≡ false = rw e in
      let n6 : eqb r.kind 6 ≡ false = rw e in
      let n : length r.body ≡ 8 = eqb-true (length r.body) 8 (rw (n1, n2, n3, q) at b) in
      rw (n5, n6, q) (w.probe e n)

  by_kind : P (serve_kind s r.kind r.body)
  unfolding serve_kind body_good
  by_kind =
      cases (eqb r.kind 1)
      (λ q. let b' : (leb 8 (length r.body) && leb (length r.body) (8 + value_limit)) ≡ true = rw q at b in
      rw q (w.put (eqb-true r.kind 1 q)
      (leb-true 8 (length r.body) (both_left (leb 8 (length r.body)) (leb (length r.body) (8 + value_limit)) b'))
      (leb-true (length r.body) (8 + value_limit) (both_right (leb 8 (length r.body)) (leb (length r.body) (8 + value_limit)) b'))))
      (λ n1. cases (eqb r.kind 2)
      (λ q. rw (n1, q) (w.delete (eqb-true r.kind 2 q) (eqb-true (length r.body) 8 (rw (n1, q) at b))))
      (λ n2. cases (eqb r.kind 3)
      (λ q. rw (n1, n2, q) (w.look (eqb-true r.kind 3 q) (eqb-true (length r.body) 8 (rw (n1, n2, q) at b))))
      (λ n3. cases (eqb r.kind 4)
      (λ q. let e : r.kind ≡ 4 = eqb-true r.kind 4 q in
      let n8 : eqb r.kind 8 ≡ false = rw e in
      rw (n1, n2, n3, q) (w.scan e (eqb-true (length r.body) 16 (rw (n1, n2, n3, n8, q) at b))))
      (λ n4. rw (n1, n2, n3, n4)
      (cases (eqb r.kind 8) (probe-way n1 n2 n3) (λ n8. rw n8 (last n1 n2 n3 n4 n8)))))))

pub serve-cases : (s : Store) (r : Request) (P : Served → Type 0) → Ways s r P → P (serve s r)
unfolding serve
serve-cases s r P w =
    cases (known r.kind)
    (λ k. cases (body_good r.kind (length r.body))
    (λ b. rw (k, b) (by_kind s r P w k b))
    (λ b. rw (k, b) (w.misfit k b)))
    (λ k. rw k (w.unknown k))
