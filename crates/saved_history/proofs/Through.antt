-- Demand 3 through saving and opening, as one theorem: from any start that agrees with what is lent, through any number of runs and openings. Each leads
-- from a start to one that agrees with what is lent then, a run by `told-leads`, an opening by `Reopens`; one behind the other they lead from
-- the first start to the last.
use Prim.Native.Nat.{ℕ}
use mathlib.Core.Path.{◌≡◌, refl}
use mathlib.Core.List.{List, [], ◌∷◌}
use mathlib.Core.Bool.{true}
use native.Mathlib.Omega.{arith}
use lib.ListN.{length, length-append}
use Rattle.ldc.specs.Rules.{threshold_good}
use Rattle.ldc.specs.Lent.{Lent, places_in, sizes_good}
use Rattle.ldc.specs.Run.{make}
use Rattle.ldc.specs.History.{Start, new_start}
use Rattle.ldc.proofs.Serving.Keeps.{keeps}
use Rattle.ldc.proofs.Serving.KeepsWhole.{whole-keeps}
use Rattle.ldc.proofs.Serving.Runs.{run-told, run-complete}
use Rattle.ldc.proofs.Serving.Splits.{Sent, split-bytes}
use Rattle.ldc.proofs.Demand.Starts.{Starts, Leads, new-starts, told-leads, leads-none, leads-both}
use Rattle.ldc.proofs.Demand.Demand3.{leads-hold}
use Rattle.saved_history.specs.History.{Act, ran, reopened, after_act, lent_through, act_events, events_through, act_served, served_through}
use Rattle.saved_history.specs.History.{start_past, start_through, Given, AllGiven, Opened, AllOpened, Demand3Through}
use Rattle.saved_history.proofs.Reopens.{both-accepted, reopened-leads}

-- ---- one

module _ (x : Start) (m : Lent) (k : Starts x m) where
  act-leads : (a : Act) → Given m a → Leads x (act_events m a) (start_past x m a) (after_act m a)
  unfolding start_past
  act-leads (ran c) b =
      told-leads x m k (act_events m (ran c)) (after_act m (ran c))
      (rw k.lent (run-told Sent keeps whole-keeps k.shown k.sound k.whole c.list c.answer (λ rs q. split-bytes c.list rs b q)))
  act-leads (reopened buffer onto) c = reopened-leads x m k buffer onto c

  act-opened : (a : Act) → Given m a → Opened m a
  act-opened (ran c) b = tt
  act-opened (reopened buffer onto) c = both-accepted x m k buffer onto c

  act-complete : (a : Act) → Given m a → length (act_events m a) ≡ act_served m a
  act-complete (ran c) b =
      rw k.lent (run-complete Sent keeps whole-keeps k.shown k.sound k.whole c.list c.answer (λ rs q. split-bytes c.list rs b q))
  act-complete (reopened buffer onto) c = refl

-- ---- one behind the other

acts-lead : (x : Start) (m : Lent) (acts : List Act) → Starts x m → AllGiven m acts → Leads x (events_through m acts) (start_through x m acts) (lent_through m acts)
acts-lead x m [] k g = leads-none x m k
acts-lead x m (a ∷ acts) k g =
    let h = act-leads x m k a g.0 in
    let y : Start = start_past x m a in
    let m' : Lent = after_act m a in
    leads-both x y (start_through y m' acts) (act_events m a) (events_through m' acts) m' (lent_through m' acts) h (acts-lead y m' acts h.starts g.1)

acts-opened : (x : Start) (m : Lent) (acts : List Act) → Starts x m → AllGiven m acts → AllOpened m acts
acts-opened x m [] k g = tt
acts-opened x m (a ∷ acts) k g =
    (act-opened x m k a g.0, acts-opened (start_past x m a) (after_act m a) acts (act-leads x m k a g.0).starts g.1)

acts-complete : (x : Start) (m : Lent) (acts : List Act) → Starts x m → AllGiven m acts → length (events_through m acts) ≡ served_through m acts
acts-complete x m [] k g = refl
acts-complete x m (a ∷ acts) k g =
    let m' : Lent = after_act m a in
    omega (
      arith,
      length-append (act_events m a) (events_through m' acts),
      act-complete x m k a g.0,
      acts-complete (start_past x m a) m' acts (act-leads x m k a g.0).starts g.1,
    )

-- ---- the theorem

pub demand3-through : (x : Start) (m : Lent) (acts : List Act) → Starts x m → AllGiven m acts → Demand3Through x m acts
demand3-through x m acts k g = record {
  complete = acts-complete x m acts k g;
  opened = acts-opened x m acts k g;
  holds = leads-hold x (events_through m acts) (start_through x m acts) (lent_through m acts) (acts-lead x m acts k g);
}

-- From a store made anew.
pub demand3-through-new : (m : Lent) (t : ℕ) (acts : List Act) (places : List (List ℕ))
    → sizes_good m ≡ true → threshold_good t ≡ true → length places ≡ places_in m.area → AllGiven (make m t).lent acts
    → Demand3Through (new_start t places) (make m t).lent acts
demand3-through-new m t acts places z h n g =
    demand3-through (new_start t places) (make m t).lent acts (new-starts m t places z h n) g
