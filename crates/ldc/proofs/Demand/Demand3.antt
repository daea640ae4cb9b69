-- Demand 3, as one theorem: for every history, from any start that agrees with what is lent, through any number of runs with any lists and answer
-- buffers. Its replies are the map's, and what is lent at the end agrees with the start that the history leaves (`Starts`); that says the rest.
-- A store made anew is such a start.
use Prim.Native.Nat.{ℕ}
use mathlib.Core.Path.{◌≡◌, ◌∙◌, ap, sym}
use mathlib.Core.List.{List}
use mathlib.Core.Bool.{true}
use native.Mathlib.Omega.{arith}
use lib.ListN.{length, length-map}
use Rattle.ldc.specs.Lists.{keep}
use Rattle.ldc.specs.Store.{Store}
use Rattle.ldc.specs.Rules.{threshold_good}
use Rattle.ldc.specs.Lent.{Lent, places_in, lent_of, sizes_good}
use Rattle.ldc.specs.Run.{make}
use Rattle.ldc.specs.History.{Call, Event, Unmerged, Answered, events, lent_after, hangs_on, link_of, Start, new_start, start_after, Holds, Demand3}
use Rattle.ldc.proofs.Serving.Keeps.{keeps}
use Rattle.ldc.proofs.Serving.KeepsWhole.{whole-keeps}
use Rattle.ldc.proofs.Lent.Round.{store_of-lent_of}
use Rattle.ldc.proofs.Lent.Rules.{kept-lent_of}
use Rattle.ldc.proofs.Serving.Runs.{history-complete}
use Rattle.ldc.proofs.Serving.Splits.{Sent, split-bytes}
use Rattle.ldc.proofs.Stores.Sound.{Sound, Whole}
use Rattle.ldc.proofs.Demand.Slices.{Tracks, list-names}
use Rattle.ldc.proofs.Demand.Starts.{Starts, new-starts, BytesIn, Leads, calls-lead}

-- What is lent shows a store that is sound, tracked by the list, with the threshold of the start; as many slices hang on a place as links stand
-- on its card.
holds : (x : Start) (es : List Event) → Answered x.values es → (s : Store) → Sound s → Whole s → s.threshold ≡ x.store.threshold
    → (us : List Unmerged) → Tracks s us → Holds x es us (lent_of s)
holds x es a s S W h us T =
    let e = store_of-lent_of s S W in
    record {
      answered = a;
      sound = kept-lent_of s S W;
      frozen = λ p _. rw e (S.naming p ∙ list-names s us T p);
      kept = λ u m. rw e (T.kept u m);
      carried = λ p. rw e (T.carried p);
      few = λ p. omega (arith, h, S.few p, ap length (T.carried p), length-map (keep (hangs_on p) us) link_of);
      few_links = λ p. rw (e, ← h) (S.few p);
    }

-- Where events lead from a start, the slice list of the other start says it.
pub leads-hold : (x : Start) (es : List Event) (y : Start) (m : Lent) → Leads x es y m → Holds x es y.slices m
leads-hold x es y m h =
    let k : Starts y m = h.starts in
    rw k.lent
    (holds x es h.answered k.shown k.sound k.whole (sym k.alike.same-threshold ∙ h.threshold) y.slices k.tracks)

-- For every start that agrees with what is lent, and every list of calls whose lists are bytes.
pub demand3 : (x : Start) (m : Lent) (calls : List Call) → Starts x m → BytesIn calls → Demand3 x m calls
demand3 x m calls k b = record {
  complete = rw k.lent
      (history-complete Sent keeps whole-keeps k.shown k.sound k.whole calls (λ c i rs q. split-bytes c.list rs (b c i) q));
  holds = leads-hold x (events m calls) (start_after x (events m calls)) (lent_after m calls) (calls-lead x m k calls b);
}

-- From a store made anew: for every lent memory of the right sizes, every threshold from 1 to 8, and places to work the slice list out over, as
-- many as are lent.
pub demand3-new : (m : Lent) (t : ℕ) (calls : List Call) (places : List (List ℕ))
    → sizes_good m ≡ true → threshold_good t ≡ true → BytesIn calls → length places ≡ places_in m.area
    → Demand3 (new_start t places) (make m t).lent calls
demand3-new m t calls places z h b n = demand3 (new_start t places) (make m t).lent calls (new-starts m t places z h n) b
