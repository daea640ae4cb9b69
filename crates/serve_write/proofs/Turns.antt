-- What serving leaves, from its three parts, with a body and without; and the bodies of the replies to flush and tidy.
use Prim.Native.Nat.{ℕ, ◌+◌}
use mathlib.Core.Path.{◌≡◌, sym, ◌∙◌, ap}
use native.Mathlib.Omega.{arith}
use mathlib.Core.List.{List, [], ◌∷◌, ◌++◌, append-nil}
use borrow.Author.Tests.{eq-eqb, ne_eqb}
use lib.Dec.{eqb}
use lib.ListN.{length, length-append}
use lib.Seq.{sets}
use Rattle.coding.specs.Number.{bytes_of}
use Rattle.coding.proofs.NumberLaws.{length-bytes_of}
use Rattle.ldc.specs.Lists.{is_empty}
use Rattle.ldc.specs.Store.{Store}
use Rattle.ldc.specs.Lent.{Lent, store_of, lent_of}
use Rattle.ldc.specs.Request.{Served, reply_bytes}
use Rattle.ldc.specs.Place.{free_places, serve_flush}
use Rattle.ldc.specs.Serve.{serve}
use Rattle.ldc.specs.Tidy.{Step}
use Rattle.ldc.specs.Steps.{step_served}
use Rattle.ldc.proofs.Basics.Cases.{cases}
use Rattle.ldc.proofs.Serving.Replies.{length-reply}
use Rattle.wire.specs.Reply.{reply_head, numbers, Written}
use Rattle.wire.proofs.Written.{reply-written}
use Rattle.compact.specs.Tidied.{Does}
use Rattle.compact.specs.declared.step.Tidied.{Tidied}
use Rattle.serve_write.specs.Turn.{turn, turned, turned_by, request}

pub turn-same : {m m' : Lent} {a a' : List ℕ} {w w' : ℕ} → m ≡ m' → a ≡ a' → w ≡ w' → turn m a w ≡ turn m' a' w'
turn-same {m' = m'} {a = a} {a' = a'} {w = w} em ea ew =
    ap (λ (x : Lent). turn x a w) em ∙ ap (λ (x : List ℕ). turn m' x w) ea ∙ ap (λ (x : ℕ). turn m' a' x) ew

pub turned_same : {kind kind' : ℕ} {v v' : Served} (answer : List ℕ) (at : ℕ) → kind ≡ kind' → v ≡ v' → turned kind v answer at ≡ turned kind' v' answer at
turned_same {kind' = kind'} {v = v} answer at ek ev = ap (λ (x : ℕ). turned x v answer at) ek ∙ ap (λ (x : Served). turned kind' x answer at) ev

-- What was served is what the lent store serves.
pub turned_by_lem : (m : Lent) (kind : ℕ) (body answer : List ℕ) (at : ℕ) {kind' : ℕ} {v : Served} → kind' ≡ kind → v ≡ serve (store_of m) (request kind body)
    → turned kind' v answer at ≡ turned_by m (request kind body) answer at
unfolding turned_by
turned_by_lem m kind body answer at ek ev = turned_same answer at ek ev

-- A request served without a body.
pub turn-bare : (kind result : ℕ) (v : Served) (m : Lent) (before after : List ℕ) (at written : ℕ) → result ≡ v.result → v.body ≡ [] → m ≡ lent_of v.store
    → Written before at (reply_bytes kind result []) after written → turn m after written ≡ turned kind v before at
unfolding turned
turn-bare kind result v m before after at written er eb em w =
    turn-same em (w.bytes ∙ rw (er, ← eb)) (w.count ∙ rw (er, ← eb))

pub flush-body : (s : Store) → (serve_flush s).body ≡ []
unfolding serve_flush
flush-body s =
    cases (is_empty s.memory) (λ q. rw q)
    (λ q. cases (eqb (free_places s) 0) (λ r. rw (q, r)) (λ r. rw (q, r)))

-- Step and level behind the six bytes.
pub step-written : (before : List ℕ) (at a b : ℕ)
    → sets (sets before at (reply_head 6 0 4)) (at + 6) (numbers (a ∷ b ∷ [])) ≡ sets before at (reply_bytes 6 0 (bytes_of 2 a ++ bytes_of 2 b))
unfolding numbers
step-written before at a b =
    let body : List ℕ = bytes_of 2 a ++ bytes_of 2 b in
    let four : length body ≡ 4 = simp (length-append, length-bytes_of) in
    let written = reply-written before at 6 0 body in
    rw (append-nil (bytes_of 2 b)) (rw four at written)

pub step-length : (a b : ℕ) → length (reply_bytes 6 0 (bytes_of 2 a ++ bytes_of 2 b)) ≡ 10
step-length a b =
    let body : List ℕ = bytes_of 2 a ++ bytes_of 2 b in
    let four : length body ≡ 4 = simp (length-append, length-bytes_of) in
    omega (arith, length-reply 6 0 body, four)

-- What a tidy leaves: a reply without a body, or with step and level.
module _ {m after : Lent} {step : Step} {t : Tidied} (d : Does m step after t) where
  pub does-bare : (t.result ≡ 0 → ⊥) → (step_served step (store_of m)).body ≡ []
  does-bare h = sym d.body ∙ rw (ne_eqb t.result 0 h)

  pub does-step : t.result ≡ 0 → bytes_of 2 t.step ++ bytes_of 2 t.level ≡ (step_served step (store_of m)).body
  does-step h = let b = d.body in rw (eq-eqb t.result 0 h) at b

  pub turn_step : t.result ≡ 0 → (before filled : List ℕ) (at written : ℕ)
      → Written before at (reply_bytes 6 0 (bytes_of 2 t.step ++ bytes_of 2 t.level)) filled written
      → turn after filled written ≡ turned 6 (step_served step (store_of m)) before at
  unfolding turned
  turn_step h before filled at written w =
      let body : List ℕ = bytes_of 2 t.step ++ bytes_of 2 t.level in
      let e : reply_bytes 6 0 body ≡ reply_bytes 6 (step_served step (store_of m)).result (step_served step (store_of m)).body =
      rw (← d.result, h, does-step h) in
      turn-same d.left (w.bytes ∙ ap (sets before at) e) (w.count ∙ ap length e)
