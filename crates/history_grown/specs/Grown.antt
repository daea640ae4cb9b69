-- What a history with an opening in it leaves (document 02, note 4): a store lives over the first places of what is lent, is saved, opened over all
-- places, and goes on there. Demand 3 of all of it, of what memory and answers hold at the end.
use Rattle.std.specs.Prelude.{ℕ, ◌*◌, ◌<◌, min, ◌≡◌}
use Rattle.std.specs.Prelude.{List, ◌∷◌, ◌++◌, map, cond, ◌&&◌, leb, ltb, eqb, length, get_or, take, drop}
use Rattle.std.proofs.lemmas.List.Edits.{sets}
use Rattle.table.specs.Limits.{place_size}
use Rattle.ldc.specs.Rules.{threshold_good}
use Rattle.ldc.specs.Layout.{fewest_places, level_count}
use Rattle.ldc.specs.Lent.{Lent, sizes_good, store_of}
use Rattle.ldc.specs.Run.{accepted, wrong_sizes, bad_threshold, short_answer, make}
use Rattle.ldc.specs.History.{lent_after, new_start, Holds}
use Rattle.saved_book.specs.Saved.{saved_bytes}
use Rattle.saved_book.specs.Calls.{save_book, longest_book}
use Rattle.saved_history.specs.History.{Act, ran, reopened, lent_through, events_through, served_through, start_through, AllOpened}
use Rattle.history_lists.specs.Pieces.{Pieces, start_of, piece, Runs, calls_in, events_in, noted_in}
use Rattle.history_lists.specs.Performs.{outcome_at, Ran}

-- What such a history is handed: lent memory of all places, lists and answer buffers, a buffer to save into, and working rows to open with.
pub record Handed : Type 0 where
  pub lent : Lent
  pub pieces : Pieces
  pub buffer : List ℕ
  pub working : List (List ℕ)

abbrev pub handed : Lent → Pieces → (buffer : List ℕ) → (working : List (List ℕ)) → Handed
handed m p buffer working = record { lent = m; pieces = p; buffer = buffer; working = working }

-- ---- the first places

-- The front of lent memory: so many places, as many cards, and as many items in each of the four lists.
unfoldable pub front_of : (first : ℕ) → Lent → Lent
front_of first m = record {
  area = take (first * place_size) m.area;
  cards = take first m.cards;
  lists = take (level_count * first) m.lists;
  head = m.head;
  memory = m.memory;
}

-- Lent memory whose front has become another.
unfoldable pub with_front : (front : Lent) → Lent → Lent
with_front front m = record {
  area = sets m.area 0 front.area;
  cards = sets m.cards 0 front.cards;
  lists = sets m.lists 0 front.lists;
  head = front.head;
  memory = front.memory;
}

-- ---- refusals

-- 1 for the sizes, for another number of working rows than cards, and for first places that are not 16 to all; 2 for the threshold; 3 for a buffer
-- that has not room for every book of the first places.
unfoldable pub grown_number : Handed → (t first : ℕ) → ℕ
grown_number h t first =
    cond (sizes_good h.lent
    && (eqb (length h.working) (length h.lent.cards) && (leb fewest_places first && leb first (length h.lent.cards))))
    (cond (threshold_good t) (cond (ltb (length h.buffer) (longest_book first)) short_answer accepted) bad_threshold)
    wrong_sizes

-- ---- what happens

-- The store made over the first places, and the same after so many runs.
abbrev pub made_front : Handed → (t first : ℕ) → Lent
made_front h t first = (make (front_of first h.lent) t).lent

abbrev pub front_after : Handed → (t first n : ℕ) → Lent
front_after h t first n = lent_after (made_front h t first) (calls_in h.pieces n)

-- What happens before run k, if the store is opened over all places before run `mid`.
unfoldable pub acts_to : Handed → (t first mid k : ℕ) → List Act
acts_to h t first mid k =
    cond (ltb k mid) (map ran (calls_in h.pieces k))
    (map ran (calls_in h.pieces mid)
    ++ (reopened h.buffer (with_front (front_after h t first mid) h.lent) ∷ map ran (drop mid (calls_in h.pieces k))))

-- What is lent then.
abbrev pub lent_to : Handed → (t first mid k : ℕ) → Lent
lent_to h t first mid k = lent_through (made_front h t first) (acts_to h t first mid k)

-- Runs on a store made anew, then saved: memory, answers and numbers, the saved length and the buffer are the definition's.
pub record RanSaved (m : Lent) (t : ℕ) (p : Pieces) (n : ℕ) (buffer : List ℕ) (written : ℕ)
    (m' : Lent) (p' : Pieces) (buffer' : List ℕ) : Type 0 where
  pub ran : Ran (make m t).lent p 0 n m' p'
  pub written_is : written ≡ (save_book m' buffer).written
  pub saved : buffer' ≡ (save_book m' buffer).buffer

-- ---- demand 3

-- Runs up to n, of which the first `mid` are over the first places.
pub record Grown (h : Handed) (t first mid n : ℕ) (h' : Handed) : Type 0 where
  pub runs : Runs (length h.pieces.input) h.pieces.ends (length h.pieces.answers) h.pieces.stops (length h.pieces.served) n
  -- no call on the way is refused
  pub made : (make (front_of first h.lent) t).number ≡ accepted
  pub opened : AllOpened (made_front h t first) (acts_to h t first mid n)
  -- memory, the events that are read off, and the sum of the numbers are those of the definition's history
  pub left : h'.lent ≡ lent_to h t first mid n
  pub read : events_in h'.pieces n ≡ events_through (made_front h t first) (acts_to h t first mid n)
  pub counted : noted_in h'.pieces n ≡ served_through (made_front h t first) (acts_to h t first mid n)
  -- each buffer and each number are what the definition's run leaves; what lies behind the last is untouched
  pub buffers : (k : ℕ) → k < n
      → piece h'.pieces.answers h.pieces.stops k ≡ (outcome_at (lent_to h t first mid k) h.pieces k).answer
  pub numbers : (k : ℕ) → k < n → get_or h'.pieces.served k 0 ≡ (outcome_at (lent_to h t first mid k) h.pieces k).served
  pub behind : drop (start_of h.pieces.stops n) h'.pieces.answers ≡ drop (start_of h.pieces.stops n) h.pieces.answers
  pub unused : drop n h'.pieces.served ≡ drop n h.pieces.served
  -- the saved bytes stand in front of the buffer, whose rest is untouched; the working rows are the cards of the store as opened
  pub saved : h'.buffer ≡ sets h.buffer 0 (saved_bytes (store_of (front_after h t first mid)))
  pub settled : h'.working ≡ (lent_to h t first mid mid).cards
  -- the two fields of `Demand3`
  pub complete : length (events_in h'.pieces n) ≡ noted_in h'.pieces n
  pub holds : (places : List (List ℕ)) → length places ≡ first
      → Holds (new_start t places) (events_in h'.pieces n)
      (start_through (new_start t places) (made_front h t first) (acts_to h t first mid n)).slices h'.lent

-- Refused, nothing is run and nothing changes. Else the store is opened after as many runs as `earlier` says, or after all there are.
pub record PerformsGrown (h : Handed) (t first earlier number n : ℕ) (h' : Handed) : Type 0 where
  pub number_is : number ≡ grown_number h t first
  pub refused : (number ≡ 0 → ⊥) → (n ≡ 0) × (h' ≡ h)
  pub done : number ≡ 0 → Grown h t first (min earlier n) n h'
