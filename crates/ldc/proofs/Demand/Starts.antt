-- A start that agrees with what is lent: the store that the memory shows mirrors the map, keeps in step with the slice list, and differs from the
-- store of the start in the bytes of free places at most. A new store is such a start. A history serves its requests one by one (`Runs`), and
-- each request keeps the three (`MirrorKeeps`, `SlicesKeep`, `AlikeServe`): so a history leaves such a start for what follows it.
use Prim.Native.Nat.{ℕ, zero, suc}
use mathlib.Core.Path.{◌≡◌, refl, sym, ◌∙◌, ap}
use mathlib.Core.List.{List, [], ◌∷◌, ◌++◌, Memᴰ}
use mathlib.Core.Bool.{true}
use native.Mathlib.Omega.{arith}
use lib.ListN.{length, drop}
use Rattle.coding.specs.Number.{Bytes}
use Rattle.table.specs.Entry.{Entry}
use Rattle.table.specs.Limits.{place_size}
use Rattle.table.specs.Search.{find}
use Rattle.ldc.specs.Store.{Store, new_store, level}
use Rattle.ldc.specs.Rules.{threshold_good}
use Rattle.ldc.specs.Lent.{Lent, places_in, chop, lent_of, sizes_good}
use Rattle.ldc.specs.Request.{Request, reply_of}
use Rattle.ldc.specs.Read.{read_order}
use Rattle.ldc.specs.Serve.{serve}
use Rattle.ldc.specs.Run.{make}
use Rattle.ldc.specs.History.{Call, Event, Unmerged, Answered, fed, events, lent_after, unmerged, after_step, step_of}
use Rattle.ldc.specs.History.{Start, new_start, requests_in, fed_all, serve_list, start_after}
use Rattle.ldc.proofs.Serving.Alike.{Alike, alike-new}
use Rattle.ldc.proofs.Serving.AlikeServe.{alike-serve, unmerged-alike}
use Rattle.ldc.proofs.Serving.Events.{Told}
use Rattle.ldc.proofs.Serving.Keeps.{keeps}
use Rattle.ldc.proofs.Serving.KeepsWhole.{whole-keeps}
use Rattle.ldc.proofs.Serving.KeepsFits.{fits-new, fits-keeps}
use Rattle.ldc.proofs.Serving.Runs.{History, history}
use Rattle.ldc.proofs.Serving.Splits.{Sent, split-bytes}
use Rattle.ldc.proofs.Serving.Threshold.{list-threshold}
use Rattle.ldc.proofs.Stores.Fits.{Fits}
use Rattle.ldc.proofs.Stores.New.{new-links, made, made-sound, made-whole}
use Rattle.ldc.proofs.Stores.Sound.{Sound, Whole}
use Rattle.ldc.proofs.Demand.Mirror.{Mirrors, mirror-answers}
use Rattle.ldc.proofs.Demand.MirrorKeeps.{mirror-keeps}
use Rattle.ldc.proofs.Demand.Slices.{Tracks}
use Rattle.ldc.proofs.Demand.SlicesKeep.{tracks-keep}

pub record Starts (x : Start) (m : Lent) : Type 0 where
  -- the store that the memory shows
  pub shown : Store
  pub lent : m ≡ lent_of shown
  pub sound : Sound shown
  pub whole : Whole shown
  pub fits : Fits shown
  -- it agrees with map, slice list and store of the start
  pub mirrors : Mirrors shown x.values
  pub tracks : Tracks shown x.slices
  pub alike : Alike shown x.store

-- ---- a new store

new-mirror : (t : ℕ) (places : List (List ℕ)) → Mirrors (new_store t places) []
unfolding new_store read_order level find
new-mirror t places = record { values = λ k. refl; keys = omega arith; held = refl }

new-tracks : (t : ℕ) (places : List (List ℕ)) → Tracks (new_store t places) []
new-tracks t places = record { carried = λ q. new-links t places q; kept = λ u m. absurd (elim m [ ]) }

length-chop : (n : ℕ) (bytes : List ℕ) → length (chop n bytes) ≡ n
length-chop zero bytes = refl
length-chop (suc n) bytes = ap suc (length-chop n (drop place_size bytes))

-- For every lent memory of the right sizes, every threshold from 1 to 8, and places to work the slice list out over, as many as are lent.
pub new-starts : (m : Lent) (t : ℕ) (places : List (List ℕ)) → sizes_good m ≡ true → threshold_good t ≡ true → length places ≡ places_in m.area
    → Starts (new_start t places) (make m t).lent
new-starts m t places z h n =
    let found : List (List ℕ) = chop (places_in m.area) m.area in
    record {
      shown = new_store t found;
      lent = made m t z h;
      sound = made-sound m t z h;
      whole = made-whole m t z;
      fits = fits-new t found;
      mirrors = new-mirror t found;
      tracks = new-tracks t found;
      alike = alike-new t found places (n ∙ sym (length-chop (places_in m.area) m.area));
    }

-- ---- along a list of requests

abbrev AllSent : List Request → Type 0
AllSent rs = (r : Request) → Memᴰ r rs → Sent r

-- every reply is the map's
told-answered : (s : Store) (m : List Entry) (es : List Event) → Sound s → Mirrors s m → AllSent (requests_in es) → Told s es → Answered m es
told-answered s m [] S M g t = tt
told-answered s m (e ∷ es) S M g t =
    let r = e.request in
    let sent = g r (Memᴰ.head refl) in
    let whole : e ≡ record { request = r; reply = reply_of r (serve s r) } = λ i. record { request = r; reply = t.0 i } in (
      rw t.0 (mirror-answers s S m M r),
      told-answered (serve s r).store (fed e m) es (keeps s r S sent)
          (rw whole (mirror-keeps s S m M r sent)) (λ x h. g x (Memᴰ.tail h)) t.1,
    )

-- and the map mirrored
told-mirrors : (s : Store) (m : List Entry) (es : List Event) → Sound s → Mirrors s m → AllSent (requests_in es) → Told s es
    → Mirrors (serve_list s (requests_in es)) (fed_all es m)
told-mirrors s m [] S M g t = M
told-mirrors s m (e ∷ es) S M g t =
    let r = e.request in
    let sent = g r (Memᴰ.head refl) in
    let whole : e ≡ record { request = r; reply = reply_of r (serve s r) } = λ i. record { request = r; reply = t.0 i } in
    told-mirrors (serve s r).store (fed e m) es (keeps s r S sent) (rw whole (mirror-keeps s S m M r sent)) (λ x h. g x (Memᴰ.tail h)) t.1

-- the slice list stays in step
list-tracks : (s : Store) (us : List Unmerged) (rs : List Request) → Sound s → Tracks s us → AllSent rs → Tracks (serve_list s rs) (unmerged s us rs)
list-tracks s us [] S T g = T
list-tracks s us (r ∷ rs) S T g =
    list-tracks (serve s r).store (after_step s (step_of s r) us) rs (keeps s r S (g r (Memᴰ.head refl))) (tracks-keep s S us T r) (λ x h. g x (Memᴰ.tail h))

-- stores stay alike
list-alike : (s s' : Store) (rs : List Request) → Sound s → Alike s s' → AllSent rs → Alike (serve_list s rs) (serve_list s' rs)
list-alike s s' [] S a g = a
list-alike s s' (r ∷ rs) S a g =
    list-alike (serve s r).store (serve s' r).store rs (keeps s r S (g r (Memᴰ.head refl))) (alike-serve s s' S a r).alike (λ x h. g x (Memᴰ.tail h))

-- keys of marks and links stay below 2^64
list-fits : (s : Store) (rs : List Request) → Sound s → Fits s → AllSent rs → Fits (serve_list s rs)
list-fits s [] S f g = f
list-fits s (r ∷ rs) S f g =
    let sent = g r (Memᴰ.head refl) in
    list-fits (serve s r).store rs (keeps s r S sent) (fits-keeps s r S f sent) (λ x h. g x (Memᴰ.tail h))

-- ---- along a history

abbrev pub BytesIn : List Call → Type 0
BytesIn calls = (c : Call) → Memᴰ c calls → Bytes c.list

-- Events lead from a start to another, which agrees with the memory `m`: their replies are the map's, and the other map is this one fed them. No event
-- changes the threshold.
pub record Leads (x : Start) (es : List Event) (y : Start) (m : Lent) : Type 0 where
  pub answered : Answered x.values es
  pub starts : Starts y m
  pub values : y.values ≡ fed_all es x.values
  pub threshold : y.store.threshold ≡ x.store.threshold

module _ (x : Start) (m : Lent) (k : Starts x m) where
  -- The slice list may be worked out over the store of the start.
  same-slices : (rs : List Request) → AllSent rs → unmerged x.store x.slices rs ≡ unmerged k.shown x.slices rs
  same-slices rs g = unmerged-alike Sent keeps k.shown x.store x.slices rs g k.sound k.alike

  told-starts : (es : List Event) (m' : Lent) → History Sent k.shown es m' → Starts (start_after x es) m'
  unfolding start_after
  told-starts es m' H =
      let s : Store = k.shown in
      let rs : List Request = requests_in es in
      record {
        shown = serve_list s rs;
        lent = H.lent;
        sound = H.sound;
        whole = H.whole;
        fits = list-fits s rs k.sound k.fits H.good;
        mirrors = told-mirrors s x.values es k.sound k.mirrors H.good H.told;
        tracks = rw (same-slices rs H.good) (list-tracks s x.slices rs k.sound k.tracks H.good);
        alike = list-alike s x.store rs k.sound k.alike H.good;
      }

  pub told-leads : (es : List Event) (m' : Lent) → History Sent k.shown es m' → Leads x es (start_after x es) m'
  told-leads es m' H = record {
    answered = told-answered k.shown x.values es k.sound k.mirrors H.good H.told;
    starts = told-starts es m' H;
    values = unfold start_after in refl;
    threshold =
        unfold start_after in
        ((list-alike k.shown x.store (requests_in es) k.sound k.alike H.good).same-threshold
        ∙ list-threshold k.shown (requests_in es) k.sound H.good
        ∙ sym k.alike.same-threshold);
  }

  -- Calls whose lists are bytes.
  pub calls-lead : (calls : List Call) → BytesIn calls → Leads x (events m calls) (start_after x (events m calls)) (lent_after m calls)
  calls-lead calls b =
      told-leads (events m calls) (lent_after m calls)
      (rw k.lent (history Sent keeps whole-keeps k.shown k.sound k.whole calls (λ c i rs q. split-bytes c.list rs (b c i) q)))

-- So a history leaves a start for what follows it.
pub starts-after : (x : Start) (m : Lent) (calls : List Call) → Starts x m → BytesIn calls → Starts (start_after x (events m calls)) (lent_after m calls)
starts-after x m calls k b = (calls-lead x m k calls b).starts

-- ---- one history behind another

-- Replies that are the map's, and behind them those of the map then fed.
answered-append : (m : List Entry) (es fs : List Event) → Answered m es → Answered (fed_all es m) fs → Answered m (es ++ fs)
answered-append m [] fs a b = b
answered-append m (e ∷ es) fs a b = (a.0, answered-append (fed e m) es fs a.1 b)

fed_all-append : (m : List Entry) (es fs : List Event) → fed_all (es ++ fs) m ≡ fed_all fs (fed_all es m)
fed_all-append m [] fs = refl
fed_all-append m (e ∷ es) fs = fed_all-append (fed e m) es fs

pub leads-none : (x : Start) (m : Lent) → Starts x m → Leads x [] x m
leads-none x m k = record { answered = tt; starts = k; values = refl; threshold = refl }

pub leads-both : (x y z : Start) (es fs : List Event) (m m' : Lent) → Leads x es y m → Leads y fs z m' → Leads x (es ++ fs) z m'
leads-both x y z es fs m m' h k = record {
  answered = answered-append x.values es fs h.answered (rw h.values at k.answered);
  starts = k.starts;
  values = k.values ∙ ap (fed_all fs) h.values ∙ sym (fed_all-append x.values es fs);
  threshold = k.threshold ∙ h.threshold;
}
