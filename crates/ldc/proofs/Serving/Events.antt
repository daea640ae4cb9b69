-- Serving a list as events: each request with its reply, in order, as far as the room goes. What `serve_all` writes is what these
-- replies are, one behind the other, so that a reader of the answer buffer finds the events again. By induction on the list, the rest of
-- the buffer being what stands from a position on.
use Prim.Native.Nat.{ℕ, suc, ◌+◌, ◌-◌, ◌≤◌}
use mathlib.Core.Path.{◌≡◌, refl, sym, ◌∙◌, ap}
use mathlib.Core.List.Memᴰ
use mathlib.Core.List.{List, [], ◌∷◌, ◌++◌, append_assoc, Memᴰ}
use mathlib.Core.Bool.{cond}
use native.Mathlib.Omega.{arith}
use native.Mathlib.Nat.{zero-add}
use borrow.Author.Tests.{ltb-false}
use lib.Dec.{ltb}
use lib.ListN.{length, take, drop, length-append}
use lib.Seq.{sets, sets-eq, take-append_seam, drop-append_seam, drop-drop}
use Rattle.table.specs.Entry.{length_at}
use Rattle.ldc.specs.Store.{Store}
use Rattle.ldc.specs.Request.{Request, reply_of}
use Rattle.ldc.specs.Serve.{serve}
use Rattle.ldc.specs.Run.{room_limit, serve_all}
use Rattle.ldc.specs.History.{Event, replies_at, paired, requests_in, serve_list}
use Rattle.ldc.proofs.Basics.Cases.{cases}
use Rattle.ldc.proofs.Serving.Replies.{reply-there, reply-short}
use Rattle.ldc.proofs.Stores.Sound.{Sound}

-- ---- definitions

-- A request served, with its reply.
abbrev pub event_of : Store → Request → Event
event_of s r = record { request = r; reply = reply_of r (serve s r) }

-- The events of serving a list; it stops before a request when fewer than 1,024 bytes remain.
abbrev pub events_from : (room : ℕ) → Store → List Request → List Event
events_from room s [] = []
events_from room s (r ∷ rs) =
    cond (ltb room room_limit) []
    (event_of s r ∷ events_from (room - length (reply_of r (serve s r))) (serve s r).store rs)

-- Every reply is the one of serving its request at its point.
abbrev pub Told : Store → List Event → Type 0
Told s [] = Unit {0}
Told s (e ∷ es) = (e.reply ≡ reply_of e.request (serve s e.request)) × Told (serve s e.request).store es

-- ---- one list behind another

pub requests-append : (es fs : List Event) → requests_in (es ++ fs) ≡ requests_in es ++ requests_in fs
requests-append [] fs = refl
requests-append (e ∷ es) fs = rw (requests-append es fs)

pub serve_list-append : (s : Store) (rs qs : List Request) → serve_list s (rs ++ qs) ≡ serve_list (serve_list s rs) qs
serve_list-append s [] qs = refl
serve_list-append s (r ∷ rs) qs = serve_list-append (serve s r).store rs qs

pub told-append : (s : Store) (es fs : List Event) → Told s es → Told (serve_list s (requests_in es)) fs → Told s (es ++ fs)
told-append s [] fs a b = b
told-append s (e ∷ es) fs a b = (a.0, told-append (serve s e.request).store es fs a.1 b)

-- ---- what needs no soundness

pub served-count : (room : ℕ) (s : Store) (rs : List Request) → (serve_all room s rs).served ≡ length (events_from room s rs)
served-count room s [] = refl
served-count room s (r ∷ rs) =
    cases (ltb room room_limit) (λ q. rw q)
    (λ q. rw q (ap suc (served-count (room - length (reply_of r (serve s r))) (serve s r).store rs)))

-- The requests of the events are the first ones of the list ..
pub events-prefix : (room : ℕ) (s : Store) (rs : List Request) → (rest : List Request) × (requests_in (events_from room s rs) ++ rest ≡ rs)
events-prefix room s [] = ([], refl)
events-prefix room s (r ∷ rs) =
    cases (ltb room room_limit) (λ q. rw q (r ∷ rs, refl))
    (λ q. let p = events-prefix (room - length (reply_of r (serve s r))) (serve s r).store rs in
    rw q (p.0, ap (λ (l : List Request). r ∷ l) p.1))

pub events-member : (room : ℕ) (s : Store) (rs : List Request) {r : Request} → Memᴰ r (requests_in (events_from room s rs)) → Memᴰ r rs
events-member room s rs m = let p = events-prefix room s rs in rw p.1 at (Memᴰ.append_left p.0 m)

-- .. and the store is the one after serving these.
pub events-store : (room : ℕ) (s : Store) (rs : List Request) → (serve_all room s rs).store ≡ serve_list s (requests_in (events_from room s rs))
events-store room s [] = refl
events-store room s (r ∷ rs) =
    cases (ltb room room_limit) (λ q. rw q)
    (λ q. rw q (events-store (room - length (reply_of r (serve s r))) (serve s r).store rs))

pub events-told : (room : ℕ) (s : Store) (rs : List Request) → Told s (events_from room s rs)
events-told room s [] = tt
events-told room s (r ∷ rs) =
    cases (ltb room room_limit) (λ q. rw q tt)
    (λ q. rw q (refl, events-told (room - length (reply_of r (serve s r))) (serve s r).store rs))

-- ---- from a sound store

-- For any kind of requests that keeps a store sound.
module _ (Good : Request → Type 0) (keeps : (s : Store) (r : Request) → Sound s → Good r → Sound (serve s r).store) where
  -- Every reply fits into the room that was left before it.
  pub events-fit : (room : ℕ) (s : Store) (rs : List Request) → Sound s → ((r : Request) → Memᴰ r rs → Good r)
      → length (serve_all room s rs).bytes ≤ room
  events-fit room s [] S g = omega arith
  events-fit room s (r ∷ rs) S g =
      let n : ℕ = length (reply_of r (serve s r)) in
      cases (ltb room room_limit) (λ q. rw q (omega arith))
      (λ q. let rest = events-fit (room - n) (serve s r).store rs (keeps s r S (g r (Memᴰ.head refl))) (λ x m. g x (Memᴰ.tail m)) in
      rw (q, length-append) (omega (arith, ltb-false room room_limit q, reply-short s S r)))

  -- Where the answer bytes stand from a position on, the events are read.
  pub events-at : (room : ℕ) (s : Store) (rs : List Request) → Sound s → ((r : Request) → Memᴰ r rs → Good r)
      → (buffer : List ℕ) (at : ℕ) (rest : List ℕ) → drop at buffer ≡ (serve_all room s rs).bytes ++ rest
      → paired rs (replies_at (serve_all room s rs).served buffer at) ≡ events_from room s rs
  events-at room s [] S g buffer at rest e = refl
  events-at room s (r ∷ rs) S g buffer at rest e =
      let reply : List ℕ = reply_of r (serve s r) in
      let next : List ℕ = (serve_all (room - length reply) (serve s r).store rs).bytes in
      cases (ltb room room_limit) (λ q. rw q)
      (λ q.
      let here : drop at buffer ≡ reply ++ (next ++ rest) = (rw q at e) ∙ append_assoc reply next rest in
      let said : length_at buffer at ≡ length reply =
      reply-there r (serve s r) buffer at (next ++ rest) here (omega (arith, reply-short s S r)) in
      let this : take (length reply) (drop at buffer) ≡ reply = rw here (take-append_seam reply (next ++ rest)) in
      let behind : drop (at + length reply) buffer ≡ next ++ rest =
      sym (drop-drop (length reply) at buffer) ∙ rw here (drop-append_seam reply (next ++ rest)) in
      let more = events-at (room - length reply) (serve s r).store rs (keeps s r S (g r (Memᴰ.head refl)))
      (λ x m. g x (Memᴰ.tail m)) buffer (at + length reply) rest behind in
      rw (q, said, this, more))

  pub events-read : (s : Store) (rs : List Request) (answer : List ℕ) → Sound s → ((r : Request) → Memᴰ r rs → Good r)
      → let a = serve_all (length answer) s rs in
      paired rs (replies_at a.served (sets answer 0 a.bytes) 0) ≡ events_from (length answer) s rs
  events-read s rs answer S g =
      let bytes : List ℕ = (serve_all (length answer) s rs).bytes in
      events-at (length answer) s rs S g (sets answer 0 bytes) 0 (drop (length bytes) answer)
      (rw zero-add at (sets-eq bytes answer 0 (omega (arith, events-fit (length answer) s rs S g))))
