-- Demand 3 of a history that goes on over saved books (document 02, note 4): runs, and between them the store is saved and then opened over other
-- lent memory. The latest-write map and the slice list go on as if it had not been.
use Rattle.std.specs.Prelude.{ℕ, ◌+◌, ◌-◌, ◌≤◌, ◌≡◌, List, [], ◌∷◌, ◌++◌, true, false, length, take, replicate}
use Rattle.coding.specs.Number.{Bytes}
use Rattle.ldc.specs.Store.{Store, size, card, is_free, bytes_at}
use Rattle.ldc.specs.Lent.{Lent, places_in, sizes_good, store_of}
use Rattle.ldc.specs.Run.{accepted, run}
use Rattle.ldc.specs.History.{Call, Event, events_of, Start, start_after, Holds}
use Rattle.saved_book.specs.Saved.{saved_bytes}
use Rattle.saved_book.specs.Opened.{grown_over}
use Rattle.saved_book.specs.Calls.{save_book, open_book}

-- What happens to a store: a run, or it is saved and then opened over other lent memory.
pub data Act : Type 0 where
  ran : (call : Call) → Act
  reopened : (buffer : List ℕ) → (onto : Lent) → Act

-- The bytes that saving leaves at the front of the buffer.
unfoldable pub saved_in : Lent → (buffer : List ℕ) → List ℕ
saved_in m buffer = take (save_book m buffer).written (save_book m buffer).buffer

-- ---- what it leaves

abbrev pub after_act : Lent → Act → Lent
after_act m (ran c) = (run m c.list c.answer).lent
after_act m (reopened buffer onto) = (open_book onto (saved_in m buffer)).lent

abbrev pub lent_through : Lent → List Act → Lent
lent_through m [] = m
lent_through m (a ∷ acts) = lent_through (after_act m a) acts

-- The requests served; saving and opening serve none.
abbrev pub act_events : Lent → Act → List Event
act_events m (ran c) = events_of c.list (run m c.list c.answer)
act_events m (reopened buffer onto) = []

abbrev pub events_through : Lent → List Act → List Event
events_through m [] = []
events_through m (a ∷ acts) = act_events m a ++ events_through (after_act m a) acts

-- How many the runs say they served.
abbrev pub act_served : Lent → Act → ℕ
act_served m (ran c) = (run m c.list c.answer).served
act_served m (reopened buffer onto) = 0

abbrev pub served_through : Lent → List Act → ℕ
served_through m [] = 0
served_through m (a ∷ acts) = act_served m a + served_through (after_act m a) acts

-- ---- the start that it leaves for what follows

-- A store with free places added up to so many; of their bytes nothing is read.
unfoldable pub with_free : (places : ℕ) → Store → Store
with_free places s = grown_over (s.places ++ replicate (places - size s) []) s

-- An opening changes neither map nor slice list; it adds free places to the store that the rules are worked through.
unfoldable pub start_past : Start → Lent → Act → Start
start_past x m (ran c) = start_after x (act_events m (ran c))
start_past x m (reopened buffer onto) =
    record { values = x.values; slices = x.slices; store = with_free (places_in onto.area) x.store }

abbrev pub start_through : Start → Lent → List Act → Start
start_through x m [] = x
start_through x m (a ∷ acts) = start_through (start_past x m a) (after_act m a) acts

-- ---- what it is given

-- What saving and opening are given: room for the saved bytes; lent memory of the right sizes, of as many places or more; and in every place that is
-- not free the bytes that it held at saving. Nothing is asked of the rest of the memory opened over.
pub record Carried (m : Lent) (buffer : List ℕ) (onto : Lent) : Type 0 where
  pub room : length (saved_bytes (store_of m)) ≤ length buffer
  pub sizes : sizes_good onto ≡ true
  pub more : places_in m.area ≤ places_in onto.area
  pub held : (p : ℕ) → is_free (card (store_of m) p) ≡ false → bytes_at (store_of onto) p ≡ bytes_at (store_of m) p

-- The list of a run is bytes.
abbrev pub Given : Lent → Act → Type 0
Given m (ran c) = Bytes c.list
Given m (reopened buffer onto) = Carried m buffer onto

abbrev pub AllGiven : Lent → List Act → Type 0
AllGiven m [] = Unit {0}
AllGiven m (a ∷ acts) = Given m a × AllGiven (after_act m a) acts

-- ---- demand 3

-- Every saving and every opening gives 0.
abbrev pub Opened : Lent → Act → Type 0
Opened m (ran c) = Unit {0}
Opened m (reopened buffer onto) = ((save_book m buffer).number ≡ accepted) × ((open_book onto (saved_in m buffer)).number ≡ accepted)

abbrev pub AllOpened : Lent → List Act → Type 0
AllOpened m [] = Unit {0}
AllOpened m (a ∷ acts) = Opened m a × AllOpened (after_act m a) acts

-- The two fields of `Demand3`, of runs with openings between them, and that no opening is refused.
pub record Demand3Through (x : Start) (m : Lent) (acts : List Act) : Type 0 where
  pub complete : length (events_through m acts) ≡ served_through m acts
  pub opened : AllOpened m acts
  pub holds : Holds x (events_through m acts) (start_through x m acts).slices (lent_through m acts)
