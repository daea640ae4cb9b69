-- From runs over the memory of a sound store to events. Such a memory is never refused by 1 or 5, and shows the store; so a run
-- serves the list as `Events` says and leaves the memory of the store after it. Runs follow each other by induction on the calls.
use Prim.Native.Nat.{ℕ, ◌≤◌, ◌<◌}
use mathlib.Core.Path.{◌≡◌, refl, sym}
use mathlib.Core.List.Memᴰ
use mathlib.Core.List.{List, [], ◌∷◌, ◌++◌, Memᴰ}
use mathlib.Core.Logic.{⊎_elim}
use mathlib.Core.Option.{some, none, get_or}
use native.Mathlib.Omega.{arith}
use borrow.Author.Tests.{lt-ltb, le-ltb, ltb-true, ltb-false}
use lib.Dec.{ltb}
use lib.ListN.{length, length-append}
use Rattle.ldc.specs.Store.{Store}
use Rattle.ldc.specs.Lent.{Lent, lent_of}
use Rattle.ldc.specs.Request.{Request}
use Rattle.ldc.specs.Serve.{serve}
use Rattle.ldc.specs.Run.{split, room_limit, serve_all, Outcome, refused_run, accepted_run, run}
use Rattle.ldc.specs.History.{Call, Event, paired, events_of, lent_after, events, served_in, requests_in, serve_list}
use Rattle.ldc.proofs.Basics.Cases.{cases, maybe}
use Rattle.ldc.proofs.Serving.Events.{events_from, Told, requests-append, serve_list-append, told-append, events-member, events-store, events-told, events-read, served-count}
use Rattle.ldc.proofs.Lent.Round.{store_of-lent_of, sizes-lent_of}
use Rattle.ldc.proofs.Lent.Rules.{kept-lent_of}
use Rattle.ldc.proofs.Stores.Sound.{Sound, Whole}

-- ---- one run

module _ (s : Store) (S : Sound s) (W : Whole s) (list answer : List ℕ) where
  pub run_short : length answer < room_limit → run (lent_of s) list answer ≡ refused_run 3 (lent_of s) answer
  unfolding run
  run_short h = rw (sizes-lent_of s S W, lt-ltb (length answer) room_limit h)

  module _ (room : room_limit ≤ length answer) where
    pub run-unsplit : split list ≡ none → run (lent_of s) list answer ≡ refused_run 4 (lent_of s) answer
    unfolding run
    run-unsplit q = rw (sizes-lent_of s S W, le-ltb (length answer) room_limit room, q)

    pub run-served : (rs : List Request) → split list ≡ some rs
        → run (lent_of s) list answer ≡ accepted_run (serve_all (length answer) s rs) answer
    unfolding run
    run-served rs q = rw (sizes-lent_of s S W, le-ltb (length answer) room_limit room, q, kept-lent_of s S W, store_of-lent_of s S W)

-- A run that serves none has no events.
paired_none : (rs : List Request) → paired rs [] ≡ []
paired_none [] = refl
paired_none (r ∷ rs) = refl

pub refused-events : (list : List ℕ) (number : ℕ) (m : Lent) (answer : List ℕ) → events_of list (refused_run number m answer) ≡ []
unfolding events_of
refused-events list number m answer = paired_none (get_or (split list) [])

-- ---- what runs tell

-- These events lead from a store to one whose memory this is: each reply is that of serving, the requests are good, and the store
-- after serving them is sound and whole.
pub record History (Good : Request → Type 0) (s : Store) (es : List Event) (m : Lent) : Type 0 where
  pub told : Told s es
  pub good : (r : Request) → Memᴰ r (requests_in es) → Good r
  pub lent : m ≡ lent_of (serve_list s (requests_in es))
  pub sound : Sound (serve_list s (requests_in es))
  pub whole : Whole (serve_list s (requests_in es))

-- For any kind of requests that keeps a store sound and whole.
module _ (Good : Request → Type 0)
    (keeps : (s : Store) (r : Request) → Sound s → Good r → Sound (serve s r).store)
    (whole-keeps : (s : Store) (r : Request) → Sound s → Whole s → Good r → Whole (serve s r).store) where
  pub serve_list-keeps : (s : Store) (rs : List Request) → Sound s → Whole s → ((r : Request) → Memᴰ r rs → Good r)
      → Sound (serve_list s rs) × Whole (serve_list s rs)
  serve_list-keeps s [] S W g = (S, W)
  serve_list-keeps s (r ∷ rs) S W g =
      let h : Good r = g r (Memᴰ.head refl) in
      serve_list-keeps (serve s r).store rs (keeps s r S h) (whole-keeps s r S W h) (λ x m. g x (Memᴰ.tail m))

  none-served : (s : Store) → Sound s → Whole s → History Good s [] (lent_of s)
  none-served s S W = record { told = tt; good = λ r m. absurd (Memᴰ.not-nil m); lent = refl; sound = S; whole = W }

  both-served : (s : Store) (es fs : List Event) (m n : Lent) → History Good s es m → History Good (serve_list s (requests_in es)) fs n
      → History Good s (es ++ fs) n
  both-served s es fs m n h k =
      let e : serve_list s (requests_in (es ++ fs)) ≡ serve_list (serve_list s (requests_in es)) (requests_in fs) =
      rw requests-append (serve_list-append s (requests_in es) (requests_in fs)) in
      record {
        told = told-append s es fs h.told k.told;
        good = λ r x. ⊎_elim (h.good r) (k.good r) (Memᴰ.append_cases (requests_in es) (rw requests-append at x));
        lent = rw e k.lent;
        sound = rw e k.sound;
        whole = rw e k.whole;
      }

  -- The events of a run that is not refused are those of serving its list.
  pub run-events : (s : Store) → Sound s → Whole s → (list answer : List ℕ) → room_limit ≤ length answer
      → (rs : List Request) → split list ≡ some rs → ((r : Request) → Memᴰ r rs → Good r)
      → events_of list (run (lent_of s) list answer) ≡ events_from (length answer) s rs
  unfolding events_of
  run-events s S W list answer room rs y g = rw (run-served s S W list answer room rs y, y) (events-read Good keeps s rs answer S g)

  -- What a run over the memory of a sound store tells.
  pub run-told : (s : Store) → Sound s → Whole s → (list answer : List ℕ)
      → ((rs : List Request) → split list ≡ some rs → (r : Request) → Memᴰ r rs → Good r)
      → History Good s (events_of list (run (lent_of s) list answer)) (run (lent_of s) list answer).lent
  run-told s S W list answer g =
      cases (ltb (length answer) room_limit)
      (λ q. rw (run_short s S W list answer (ltb-true (length answer) room_limit q), refused-events list 3 (lent_of s) answer) (none-served s S W))
      (λ q. maybe (split list)
      (λ n. rw (run-unsplit s S W list answer (ltb-false (length answer) room_limit q) n, refused-events list 4 (lent_of s) answer) (none-served s S W))
      (λ rs y.
      let room : room_limit ≤ length answer = ltb-false (length answer) room_limit q in
      let es : List Event = events_from (length answer) s rs in
      let good : (r : Request) → Memᴰ r (requests_in es) → Good r = λ r m. g rs y r (events-member (length answer) s rs m) in
      let kept = serve_list-keeps s (requests_in es) S W good in
      rw (run-events s S W list answer room rs y (g rs y), run-served s S W list answer room rs y, events-store (length answer) s rs)
      (record { told = events-told (length answer) s rs; good = good; lent = refl; sound = kept.0; whole = kept.1 })))

  -- The events of some calls, one after the other.
  pub history : (s : Store) → Sound s → Whole s → (calls : List Call)
      → ((c : Call) → Memᴰ c calls → (rs : List Request) → split c.list ≡ some rs → (r : Request) → Memᴰ r rs → Good r)
      → History Good s (events (lent_of s) calls) (lent_after (lent_of s) calls)
  history s S W [] g = none-served s S W
  history s S W (c ∷ cs) g =
      let o : Outcome = run (lent_of s) c.list c.answer in
      let h = run-told s S W c.list c.answer (g c (Memᴰ.head refl)) in
      let k = history (serve_list s (requests_in (events_of c.list o))) h.sound h.whole cs (λ d m. g d (Memᴰ.tail m)) in
      both-served s (events_of c.list o) (events o.lent cs) o.lent (lent_after o.lent cs) h (rw (← h.lent) at k)

  -- No request that was served is left out.
  pub run-complete : (s : Store) → Sound s → Whole s → (list answer : List ℕ)
      → ((rs : List Request) → split list ≡ some rs → (r : Request) → Memᴰ r rs → Good r)
      → length (events_of list (run (lent_of s) list answer)) ≡ (run (lent_of s) list answer).served
  run-complete s S W list answer g =
      cases (ltb (length answer) room_limit)
      (λ q. rw (run_short s S W list answer (ltb-true (length answer) room_limit q), refused-events list 3 (lent_of s) answer))
      (λ q. maybe (split list)
      (λ n. rw (run-unsplit s S W list answer (ltb-false (length answer) room_limit q) n, refused-events list 4 (lent_of s) answer))
      (λ rs y.
      let room : room_limit ≤ length answer = ltb-false (length answer) room_limit q in
      rw (run-events s S W list answer room rs y (g rs y), run-served s S W list answer room rs y) (sym (served-count (length answer) s rs))))

  pub history-complete : (s : Store) → Sound s → Whole s → (calls : List Call)
      → ((c : Call) → Memᴰ c calls → (rs : List Request) → split c.list ≡ some rs → (r : Request) → Memᴰ r rs → Good r)
      → length (events (lent_of s) calls) ≡ served_in (lent_of s) calls
  history-complete s S W [] g = refl
  history-complete s S W (c ∷ cs) g =
      let o : Outcome = run (lent_of s) c.list c.answer in
      let h = run-told s S W c.list c.answer (g c (Memᴰ.head refl)) in
      let k = history-complete (serve_list s (requests_in (events_of c.list o))) h.sound h.whole cs (λ d m. g d (Memᴰ.tail m)) in
      let k' : length (events o.lent cs) ≡ served_in o.lent cs = rw (← h.lent) at k in
      let a = length-append (events_of c.list o) (events o.lent cs) in
      let b = run-complete s S W c.list c.answer (g c (Memᴰ.head refl)) in
      omega arith
