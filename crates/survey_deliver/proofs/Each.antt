-- Serving all requests of a list. A run serves the first of them, as many as its room takes; the rest goes on where it stopped.
-- By induction on the list.
use Prim.Native.Nat.{ℕ, ◌-◌, ◌*◌, ◌≤◌, ◌<◌}
use mathlib.Core.Path.{◌≡◌, refl, sym, ap}
use mathlib.Core.List.{List, [], ◌∷◌, ◌++◌, append_assoc, Memᴰ}
use native.Mathlib.Omega.{arith}
use borrow.Author.Tests.{le-ltb}
use lib.Dec.{ltb}
use lib.ListN.{length, take, length-append}
use Rattle.ldc.specs.Store.{Store}
use Rattle.ldc.specs.Request.{Request, reply_of}
use Rattle.ldc.specs.Serve.{serve}
use Rattle.ldc.specs.Run.{room_limit, prepended, serve_all}
use Rattle.ldc.proofs.Basics.Cases.{cases}
use Rattle.ldc.proofs.Stores.Sound.{Sound, Whole}
use Rattle.ldc.proofs.Serving.Splits.{Sent}
use Rattle.ldc.proofs.Serving.Keeps.{keeps}
use Rattle.ldc.proofs.Serving.KeepsWhole.{whole-keeps}
use Rattle.ldc.proofs.Serving.Replies.{reply-short}
use Rattle.survey_deliver.specs.Whole.{serve_each}

-- ---- a run

-- What a run serves is the first of the list, as many as it says.
pub all-each : (room : ℕ) (s : Store) (rs : List Request) → serve_all room s rs ≡ serve_each s (take (serve_all room s rs).served rs)
all-each room s [] = refl
all-each room s (r ∷ rs) =
    cases (ltb room room_limit) (λ q. rw q)
    (λ q. rw q (ap (prepended (reply_of r (serve s r))) (all-each (room - length (reply_of r (serve s r))) (serve s r).store rs)))

pub all-few : (room : ℕ) (s : Store) (rs : List Request) → (serve_all room s rs).served ≤ length rs
all-few room s [] = omega arith
all-few room s (r ∷ rs) =
    cases (ltb room room_limit) (λ q. rw q (omega arith))
    (λ q. rw q (omega (arith, all-few (room - length (reply_of r (serve s r))) (serve s r).store rs)))

-- With room there is progress.
pub all-some : (room : ℕ) (s : Store) (rs : List Request) → room_limit ≤ room → 0 < length rs → 0 < (serve_all room s rs).served
all-some room s [] h n = absurd (omega arith)
all-some room s (r ∷ rs) h n = rw (le-ltb room room_limit h) (omega arith)

-- ---- one list behind another

pub each-store : (s : Store) (rs qs : List Request) → (serve_each s (rs ++ qs)).store ≡ (serve_each (serve_each s rs).store qs).store
each-store s [] qs = refl
each-store s (r ∷ rs) qs = each-store (serve s r).store rs qs

pub each-bytes : (s : Store) (rs qs : List Request) → (serve_each s (rs ++ qs)).bytes ≡ (serve_each s rs).bytes ++ (serve_each (serve_each s rs).store qs).bytes
each-bytes s [] qs = refl
each-bytes s (r ∷ rs) qs = rw (each-bytes (serve s r).store rs qs) (sym (append_assoc (reply_of r (serve s r)) _ _))

-- ---- from a sound store

abbrev pub AllSent : List Request → Type 0
AllSent rs = (r : Request) → Memᴰ r rs → Sent r

pub each_keeps : (s : Store) (rs : List Request) → Sound s → Whole s → AllSent rs → Sound (serve_each s rs).store × Whole (serve_each s rs).store
each_keeps s [] S W g = (S, W)
each_keeps s (r ∷ rs) S W g =
    let h : Sent r = g r (Memᴰ.head refl) in
    each_keeps (serve s r).store rs (keeps s r S h) (whole-keeps s r S W h) (λ x m. g x (Memᴰ.tail m))

pub each-short : (s : Store) (rs : List Request) → Sound s → AllSent rs → length (serve_each s rs).bytes ≤ room_limit * length rs
each-short s [] S g = omega arith
each-short s (r ∷ rs) S g =
    let h : Sent r = g r (Memᴰ.head refl) in
    rw length-append (omega (arith, reply-short s S r, each-short (serve s r).store rs (keeps s r S h) (λ x m. g x (Memᴰ.tail m))))

-- One run with room for the longest reply to each request serves them all.
pub enough : (room : ℕ) (s : Store) (rs : List Request) → Sound s → AllSent rs → room_limit * length rs ≤ room → serve_all room s rs ≡ serve_each s rs
enough room s [] S g e = refl
enough room s (r ∷ rs) S g e =
    let h : Sent r = g r (Memᴰ.head refl) in
    rw (le-ltb room room_limit (omega arith))
    (ap (prepended (reply_of r (serve s r)))
    (enough (room - length (reply_of r (serve s r))) (serve s r).store rs (keeps s r S h) (λ x m. g x (Memᴰ.tail m)) (omega (arith, reply-short s S r))))
