-- Acts one behind the other, and runs alone among them: memory, events, numbers, what is given, and what is opened. Each by induction on the first
-- acts.
use Prim.Native.Nat.{ℕ, ◌+◌}
use mathlib.Core.Path.{◌≡◌, refl, sym, ◌∙◌, ap}
use mathlib.Core.List.Memᴰ
use mathlib.Core.List.{List, [], ◌∷◌, ◌++◌, map, append_assoc}
use native.Mathlib.Omega.{arith}
use Rattle.ldc.specs.Lent.{Lent}
use Rattle.ldc.specs.Run.{run}
use Rattle.ldc.specs.History.{Call, Event, events, lent_after, served_in}
use Rattle.ldc.proofs.Demand.Starts.{BytesIn}
use Rattle.saved_history.specs.History.{Act, ran, after_act, lent_through, act_events, events_through, served_through, AllGiven, AllOpened}

-- ---- one behind the other

pub lent-behind : (m : Lent) (a b : List Act) → lent_through m (a ++ b) ≡ lent_through (lent_through m a) b
lent-behind m [] b = refl
lent-behind m (x ∷ a) b = lent-behind (after_act m x) a b

pub events-behind : (m : Lent) (a b : List Act) → events_through m (a ++ b) ≡ events_through m a ++ events_through (lent_through m a) b
events-behind m [] b = refl
events-behind m (x ∷ a) b =
    ap (λ (es : List Event). act_events m x ++ es) (events-behind (after_act m x) a b)
    ∙ sym (append_assoc (act_events m x) (events_through (after_act m x) a) (events_through (lent_through (after_act m x) a) b))

pub served-behind : (m : Lent) (a b : List Act) → served_through m (a ++ b) ≡ served_through m a + served_through (lent_through m a) b
served-behind m [] b = omega arith
served-behind m (x ∷ a) b = omega (arith, served-behind (after_act m x) a b)

pub given-behind : (m : Lent) (a b : List Act) → AllGiven m a → AllGiven (lent_through m a) b → AllGiven m (a ++ b)
given-behind m [] b g h = h
given-behind m (x ∷ a) b g h = (g.0, given-behind (after_act m x) a b g.1 h)

pub opened-behind : (m : Lent) (a b : List Act) → AllOpened m (a ++ b) → AllOpened (lent_through m a) b
opened-behind m [] b o = o
opened-behind m (x ∷ a) b o = opened-behind (after_act m x) a b o.1

-- ---- runs alone

pub lent_runs : (m : Lent) (cs : List Call) → lent_through m (map ran cs) ≡ lent_after m cs
lent_runs m [] = refl
lent_runs m (c ∷ cs) = lent_runs (run m c.list c.answer).lent cs

pub events-runs : (m : Lent) (cs : List Call) → events_through m (map ran cs) ≡ events m cs
events-runs m [] = refl
events-runs m (c ∷ cs) = ap (λ (es : List Event). act_events m (ran c) ++ es) (events-runs (run m c.list c.answer).lent cs)

pub served-runs : (m : Lent) (cs : List Call) → served_through m (map ran cs) ≡ served_in m cs
served-runs m [] = refl
served-runs m (c ∷ cs) = ap (λ (n : ℕ). (run m c.list c.answer).served + n) (served-runs (run m c.list c.answer).lent cs)

pub given-runs : (m : Lent) (cs : List Call) → BytesIn cs → AllGiven m (map ran cs)
given-runs m [] b = tt
given-runs m (c ∷ cs) b =
    (b c (Memᴰ.head refl), given-runs (run m c.list c.answer).lent cs (λ d i. b d (Memᴰ.tail i)))
