-- What a history of runs leaves: demand 3, of what memory and answers hold at the end.
use Rattle.std.specs.Prelude.{ℕ, ◌+◌, ◌≤◌, ◌<◌, ◌≡◌, List, ◌++◌, length, get_or, drop, set}
use Rattle.std.proofs.lemmas.List.Edits.{sets}
use Rattle.ldc.specs.Lent.{Lent, places_in}
use Rattle.ldc.specs.Run.{Outcome, run, make}
use Rattle.ldc.specs.History.{events, lent_after, served_in, new_start, start_after, Holds}
use Rattle.history_lists.specs.Pieces.{Pieces, start_of, piece, Runs, call_at, calls_in, events_in, noted_in}

-- What the definition says of run k on memory `m`.
unfoldable pub outcome_at : Lent → Pieces → (k : ℕ) → Outcome
outcome_at m p k = run m (call_at p k).list (call_at p k).answer

-- One run: memory, its answer buffer and its number are the definition's, and no other byte of the answers and no other number changes.
pub record RanOne (m : Lent) (p : Pieces) (k : ℕ) (m' : Lent) (p' : Pieces) : Type 0 where
  pub left : m' ≡ (outcome_at m p k).lent
  pub answered : p'.answers ≡ sets p.answers (start_of p.stops k) (outcome_at m p k).answer
  pub noted : p'.served ≡ set p.served k (outcome_at m p k).served

-- The runs on memory `m` from run `from` on, up to n in all, up to the byte. What was read off the runs before stays.
pub record Ran (m : Lent) (p : Pieces) (from n : ℕ) (m' : Lent) (p' : Pieces) : Type 0 where
  -- memory, the events that are read off, and the sum of the numbers are those of the definition's history
  pub left : m' ≡ lent_after m (drop from (calls_in p n))
  pub read : events_in p' n ≡ events_in p from ++ events m (drop from (calls_in p n))
  pub counted : noted_in p' n ≡ noted_in p from + served_in m (drop from (calls_in p n))
  -- each buffer and each number are what the definition's run leaves
  pub buffers : (k : ℕ) → from ≤ k → k < n
      → piece p'.answers p.stops k ≡ (outcome_at (lent_after m (drop from (calls_in p k))) p k).answer
  pub numbers : (k : ℕ) → from ≤ k → k < n
      → get_or p'.served k 0 ≡ (outcome_at (lent_after m (drop from (calls_in p k))) p k).served
  -- those before, and what lies behind the last, are untouched
  pub buffers-before : (k : ℕ) → k < from → piece p'.answers p.stops k ≡ piece p.answers p.stops k
  pub numbers-before : (k : ℕ) → k < from → get_or p'.served k 0 ≡ get_or p.served k 0
  pub behind : drop (start_of p.stops n) p'.answers ≡ drop (start_of p.stops n) p.answers
  pub unused : drop n p'.served ≡ drop n p.served

-- Demand 3 in the terms of what is there at the end: `m'` is what is lent then, and the events are those read off then.
-- `runs` says how many runs there were, `ran` ties all to the definition's history from a store made anew over `m`; the last two fields are
-- those of `Demand3` from there.
pub record Joined (m : Lent) (t : ℕ) (p : Pieces) (n : ℕ) (m' : Lent) (p' : Pieces) : Type 0 where
  pub runs : Runs (length p.input) p.ends (length p.answers) p.stops (length p.served) n
  pub ran : Ran (make m t).lent p 0 n m' p'
  pub complete : length (events_in p' n) ≡ noted_in p' n
  pub holds : (places : List (List ℕ)) → length places ≡ places_in m.area
      → Holds (new_start t places) (events_in p' n) (start_after (new_start t places) (events_in p' n)).slices m'

-- Making the store gives this number. Refused, nothing is run and nothing changes.
pub record Performs (m : Lent) (t : ℕ) (p : Pieces) (number n : ℕ) (m' : Lent) (p' : Pieces) : Type 0 where
  pub number_is : number ≡ (make m t).number
  pub refused : (number ≡ 0 → ⊥) → (n ≡ 0) × ((m' ≡ m) × (p' ≡ p))
  pub done : number ≡ 0 → Joined m t p n m' p'
