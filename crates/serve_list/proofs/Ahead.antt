-- A list of requests, served one at a time. `Goes` holds between two requests: what a run of the whole list leaves is what is left when the
-- rest is served from here on. One more request takes the first of the rest, and keeps memory sound and
-- the level right on which alone merges can be due.
use Prim.Native.Nat.{ℕ, ◌+◌, ◌-◌, ◌≤◌, ◌<◌}
use mathlib.Core.Path.{◌≡◌, refl, sym, ◌∙◌, ap}
use mathlib.Core.Bool.{true, true≢false}
use mathlib.Core.List.{List, [], ◌∷◌}
use mathlib.Core.Option.{Option, some, none, map, get_or}
use native.Mathlib.Omega.{arith}
use borrow.Author.Tests.{lt-ltb, le-ltb, leb-true, leb-false}
use lib.Dec.{leb}
use lib.ListN.{length, length-append}
use lib.Seq.{sets, length-sets}
use Rattle.coding.specs.Number.{Bytes}
use Rattle.coding.proofs.Sets.{sets-append}
use Rattle.table.specs.Entry.{length_at}
use Rattle.ldc.specs.Lists.{is_some}
use Rattle.ldc.specs.Store.{Store}
use Rattle.ldc.specs.Lent.{Lent, store_of, lent_of}
use Rattle.ldc.specs.Request.{Request, Served, reply_of}
use Rattle.ldc.specs.Serve.{serve}
use Rattle.ldc.specs.Run.{list_limit, request_at, whole_at, split, room_limit, ServedAll, prepended, serve_all, Outcome, accepted_run}
use Rattle.ldc.proofs.Basics.Cases.{cases}
use Rattle.ldc.proofs.Stores.Sound.{Sound, Whole}
use Rattle.ldc.proofs.Lent.Shape.{shape-lent_of}
use Rattle.ldc.proofs.Lent.Shows.{bytes-store_of, whole-store_of, sound-store_of, lent_of-store_of}
use Rattle.ldc.proofs.Lent.Round.{store_of-lent_of, sizes-lent_of}
use Rattle.ldc.proofs.Lent.Rules.{kept-lent_of}
use Rattle.ldc.proofs.Serving.Splits.{sent-at}
use Rattle.ldc.proofs.Serving.Keeps.{keeps}
use Rattle.ldc.proofs.Serving.KeepsWhole.{whole-keeps}
use Rattle.ldc.proofs.Serving.Replies.{reply-short}
use Rattle.ldc.specs.Facts.{Shape}
use Rattle.read.specs.Shown.{Kept}
use Rattle.wire.specs.Rest.{rest}
use Rattle.wire.proofs.Splits.{whole-fits, rest_all, rest-long, rest_end, rest-turn, rest-broken, some-map}
use Rattle.ldc.specs.Layout.{level_count}
use Rattle.compact_pick.specs.Calm.{CalmBut}
use Rattle.serve_write.specs.Turn.{Turned, turn, turned, turned_by, suspect_after}
use Rattle.serve_list.specs.Ran.{ran, requests_of}
use Rattle.serve_list.proofs.Calms.{calm-keeps}

ran-same : {n n' w w' : ℕ} {m m' : Lent} {a a' : List ℕ} → n ≡ n' → w ≡ w' → m ≡ m' → a ≡ a' → ran 0 n w m a ≡ ran 0 n' w' m' a'
ran-same {n' = n'} {w = w} {w' = w'} {m = m} {m' = m'} {a = a} en ew em ea =
    ap (λ (x : ℕ). ran 0 x w m a) en ∙ ap (λ (x : ℕ). ran 0 n' x m a) ew ∙ ap (λ (x : Lent). ran 0 n' w' x a) em ∙ ap (λ (x : List ℕ). ran 0 n' w' m' x) ea

-- The requests from a position on.
abbrev from : List ℕ → (at : ℕ) → List Request
from list at = get_or (rest list at) []

-- What is left when these are served behind others.
abbrev behind : (served written : ℕ) → (answer : List ℕ) → ServedAll → Outcome
behind served written answer a =
    ran 0 (served + a.served) (written + length a.bytes) (lent_of a.store) (sets answer written a.bytes)

pub record Goes (m₀ : Lent) (list answer₀ : List ℕ) (m : Lent) (answer : List ℕ) (suspect at served written : ℕ) : Type 0 where
  pub shape : Shape m
  pub kept : Kept m
  pub calm : CalmBut suspect (store_of m)
  pub listed : is_some (rest list at) ≡ true
  pub within : at ≤ length list
  pub counted : served ≤ at
  pub room : written ≤ length answer
  pub outcome : behind served written answer (serve_all (length answer - written) (store_of m) (from list at))
      ≡ accepted_run (serve_all (length answer₀) (store_of m₀) (requests_of list)) answer₀

-- ---- the start

split_rest : (list : List ℕ) → is_some (split list) ≡ true → split list ≡ rest list 0
split_rest list h =
    cases (leb (length list) list_limit) (λ q. rest_all list (leb-true (length list) list_limit q))
    (λ q. absurd (true≢false (sym h ∙ ap is_some (rest-long list (leb-false (length list) list_limit q)))))

pub goes-start : (m : Lent) (list answer : List ℕ) → Shape m → Kept m → is_some (split list) ≡ true → Goes m list answer m answer level_count 0 0 0
goes-start m list answer sh k h =
    let e = split_rest list h in
    record {
      shape = sh;
      kept = k;
      calm = λ h. absurd (omega arith);
      listed = ap is_some (sym e) ∙ h;
      within = omega arith;
      counted = omega arith;
      room = omega arith;
      outcome =
          let whole : length answer - 0 ≡ length answer = omega arith in
          let a : ServedAll = serve_all (length answer) (store_of m) (from list 0) in
          rw (whole, e) (ran-same {m = lent_of a.store} {a = sets answer 0 a.bytes} (omega arith) (omega arith) refl refl);
    }

-- ---- one more request

get_or-more : (r : Request) (o : Option (List Request)) → is_some o ≡ true → get_or (map (λ rs. r ∷ rs) o) [] ≡ r ∷ get_or o []
get_or-more r none h = absurd (true≢false (sym h))
get_or-more r (some rs) h = refl

module _ {m₀ : Lent} {list answer₀ : List ℕ} {m : Lent} {answer : List ℕ} {suspect at served written : ℕ} (g : Goes m₀ list answer₀ m answer suspect at served written) (inside : at < length list) where
  -- A request stands there.
  pub whole-there : whole_at list at ≡ true
  whole-there =
      cases (whole_at list at) (λ q. q)
      (λ q. absurd (true≢false (sym g.listed ∙ ap is_some (rest-broken list at inside q))))

  more : is_some (rest list (at + length_at list at)) ≡ true
  more = sym (some-map (request_at list at) (rest list (at + length_at list at))) ∙ ap is_some (sym (rest-turn list at inside whole-there)) ∙ g.listed

  first : from list at ≡ request_at list at ∷ from list (at + length_at list at)
  first = ap (λ o. get_or o []) (rest-turn list at inside whole-there) ∙ get_or-more (request_at list at) (rest list (at + length_at list at)) more

  module _ (bytes : Bytes list) (space : room_limit ≤ length answer - written) where
    abbrev s : Store
    s = store_of m

    abbrev v : Served
    v = serve s (request_at list at)

    sound : Sound s
    sound = sound-store_of m g.shape g.kept.sizes g.kept.unbroken

    whole : Whole s
    whole = whole-store_of m g.kept.sizes

    sound' : Sound v.store
    sound' = keeps s (request_at list at) sound (sent-at list at bytes)

    whole' : Whole v.store
    whole' = whole-keeps s (request_at list at) sound whole (sent-at list at bytes)

    abbrev reply : List ℕ
    reply = reply_of (request_at list at) v

    module _ (m' : Lent) (answer' : List ℕ) (w : ℕ) (e : turn m' answer' w ≡ turned_by m (request_at list at) answer written) (area : Bytes m'.area) where
      left : m' ≡ lent_of v.store
      unfolding turned_by turned
      left = ap (λ (x : Turned). x.lent) e

      wrote : answer' ≡ sets answer written reply
      unfolding reply_of turned_by turned
      wrote = ap (λ (x : Turned). x.answer) e

      long : w ≡ length reply
      unfolding reply_of turned_by turned
      long = ap (λ (x : Turned). x.written) e

      store' : store_of m' ≡ v.store
      store' = ap store_of left ∙ store_of-lent_of v.store sound' whole'

      shape' : Shape m'
      shape' = rw left (shape-lent_of v.store sound' (λ p. rw (← store') (bytes-store_of m' area p)))

      room' : length answer' - (written + w) ≡ length answer - written - length reply
      room' = omega (arith, long, ap length wrote, length-sets answer written reply)

      served-first : serve_all (length answer - written) s (from list at)
          ≡ prepended reply (serve_all (length answer - written - length reply) v.store (from list (at + length_at list at)))
      served-first = rw (first, le-ltb (length answer - written) room_limit space)

      abbrev rest_of : ServedAll
      rest_of = serve_all (length answer' - (written + w)) (store_of m') (from list (at + length_at list at))

      rest-same : rest_of ≡ serve_all (length answer - written - length reply) v.store (from list (at + length_at list at))
      rest-same = rw (room', store')

      same-behind : behind (served + 1) (written + w) answer' rest_of ≡ behind served written answer (prepended reply rest_of)
      same-behind =
          let n = length-append reply rest_of.bytes in
          ran-same (omega arith) (omega (arith, long, n)) refl
          (ap (λ (x : List ℕ). sets x (written + w) rest_of.bytes) wrote
          ∙ ap (λ (x : ℕ). sets (sets answer written reply) (written + x) rest_of.bytes) long
          ∙ sym (sets-append answer written reply rest_of.bytes))

      pub goes_on : (on : ℕ) → on ≡ suspect_after suspect s (request_at list at) → Goes m₀ list answer₀ m' answer' on (at + length_at list at) (served + 1) (written + w)
      goes_on on told =
          let f = whole-fits list at whole-there in
          let short = reply-short s sound (request_at list at) in
          record {
            shape = shape';
            kept = rw left (record { sizes = sizes-lent_of v.store sound' whole'; unbroken = kept-lent_of v.store sound' whole' });
            calm = rw (told, store') (calm-keeps s sound suspect (request_at list at) g.calm);
            listed = more;
            within = f.1.1;
            counted = omega (arith, g.counted, f.1.0);
            room = omega (arith, long, short, ap length wrote, length-sets answer written reply);
            outcome =
                same-behind
                ∙ ap (behind served written answer) (ap (prepended reply) rest-same ∙ sym served-first)
                ∙ g.outcome;
          }

-- ---- the end

module _ {m₀ : Lent} {list answer₀ : List ℕ} {m : Lent} {answer : List ℕ} {suspect at served written : ℕ} (g : Goes m₀ list answer₀ m answer suspect at served written) where
  same : lent_of (store_of m) ≡ m
  same = lent_of-store_of m g.shape g.kept.sizes g.kept.unbroken

  none-behind : (a : ServedAll) → a ≡ record { store = store_of m; bytes = []; served = 0 } → ran 0 served written m answer ≡ behind served written answer a
  none-behind a e = rw e (ran-same (omega arith) (omega arith) (sym same) refl)

  pub goes_end : length list ≤ at → ran 0 served written m answer ≡ accepted_run (serve_all (length answer₀) (store_of m₀) (requests_of list)) answer₀
  goes_end h = none-behind (serve_all (length answer - written) (store_of m) (from list at)) (rw (rest_end list at h g.within)) ∙ g.outcome

  pub goes-stop : at < length list → length answer - written < room_limit → ran 0 served written m answer ≡ accepted_run (serve_all (length answer₀) (store_of m₀) (requests_of list)) answer₀
  goes-stop inside h = none-behind (serve_all (length answer - written) (store_of m) (from list at)) (rw (first g inside, lt-ltb (length answer - written) room_limit h)) ∙ g.outcome
