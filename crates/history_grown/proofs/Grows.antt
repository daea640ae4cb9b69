-- Demand 3 of a history with an opening in it, of what is there at the end. The first runs, saving and opening, and the other runs are each the
-- definition's; one behind the other they are the acts of `acts_to` (`Midway`). What `demand3-through-new` takes for granted is had: the store saved
-- is carried over (`Fronts`), and lists are bytes because the input is.
use Prim.Native.Nat.{ℕ, zero, suc, ◌-◌, ◌≤◌, ◌<◌, min}
use mathlib.Core.Path.{◌≡◌, refl, sym, ◌∙◌, ap}
use mathlib.Core.Bool.{true}
use mathlib.Core.List.{List, [], ◌∷◌, ◌++◌, Memᴰ}
use native.Mathlib.Omega.{arith}
use borrow.Author.Tests.{eq-eqb, ltb-true, ltb-false}
use lib.Dec.{ltb}
use lib.ListN.{length, get_or, take, drop, replicate, length-replicate, drop_of_length-le}
use lib.Seq.{sets, length-sets}
use Rattle.coding.specs.Number.{Bytes}
use Rattle.ldc.specs.Rules.{threshold_good}
use Rattle.ldc.specs.Lent.{Lent, sizes_good, store_of}
use Rattle.ldc.specs.Run.{Made, Outcome, accepted, make}
use Rattle.ldc.specs.History.{Call, Event, events, lent_after, served_in, new_start, start_after}
use Rattle.ldc.proofs.Basics.Cases.{cases}
use Rattle.ldc.proofs.Demand.Starts.{Starts, new-starts, starts-after}
use Rattle.book.specs.Made.{made}
use Rattle.saved_book.specs.Saved.{saved_bytes}
use Rattle.saved_book.specs.Opened.{opened_over}
use Rattle.saved_book.specs.Calls.{Saving, saving, save_book, Opening, opening, open_book, open_with, working_after}
use Rattle.saved_book.proofs.Done.{save-done, open_done}
use Rattle.saved_history.specs.History.{Act, ran, saved_in, events_through, served_through, Carried, AllGiven, Demand3Through}
use Rattle.saved_history.proofs.Through.{demand3-through-new}
use Rattle.history_lists.specs.Pieces.{Pieces, pieces, start_of, piece, Runs, calls_in, events_in, noted_in}
use Rattle.history_lists.specs.Performs.{outcome_at, Ran}
use Rattle.history_grown.specs.Grown.{Handed, handed, front_of, with_front, grown_number, made_front, front_after, acts_to, lent_to, RanSaved, Grown, PerformsGrown}
use Rattle.history_lists.proofs.Starts.{ready-buffer}
use Rattle.history_lists.proofs.Turn.{drop_more, length-calls}
use Rattle.history_lists.proofs.Joined.{calls-bytes}
use Rattle.history_grown.proofs.Fronts.{front-area, front-places, front-sizes, carried}
use Rattle.history_grown.proofs.Granted.{Granted}
use Rattle.history_grown.proofs.Midway.{still, same-calls, same_outcome, onto, others, as_opened, lent-early, lent-late, events-late, served-late, given-late, opened-mid}

made-zero : (m : Lent) (t : ℕ) → sizes_good m ≡ true → threshold_good t ≡ true → (make m t).number ≡ accepted
unfolding make
made-zero m t z g = rw (z, g)

mem-drop : {c : Call} (k : ℕ) (cs : List Call) → Memᴰ c (drop k cs) → Memᴰ c cs
mem-drop zero cs i = i
mem-drop (suc k) [] i = i
mem-drop (suc k) (x ∷ cs) i = Memᴰ.tail (mem-drop k cs i)

-- Working rows that are as many make no difference.
with_rows : (working : List (List ℕ)) (m : Lent) (bytes : List ℕ) → length working ≡ length m.cards → open_with working m bytes ≡ open_book m bytes
unfolding open_with
with_rows working m bytes e = rw (eq-eqb _ _ e)

rows-zero : (working : List (List ℕ)) (area bytes : List ℕ) → working_after accepted working area bytes ≡ (opened_over area bytes).cards
unfolding working_after
rows-zero working area bytes = refl

-- ---- all of it

module _ (m : Lent) (input ends stops answers served buffer : List ℕ) (working : List (List ℕ)) (t first mid n : ℕ)
    (g : Granted m buffer working t first) (b : Bytes input) (rs : Runs (length input) ends (length answers) stops (length served) n) (half : mid ≤ n)
    (m₂ : Lent) (answers₂ served₂ : List ℕ) (area₂ : length m₂.area ≡ length (front_of first m).area) (written : ℕ) (buffer₂ : List ℕ)
    (r₁ : RanSaved (front_of first m) t (pieces input ends answers stops served) mid buffer written m₂ (pieces input ends answers₂ stops served₂) buffer₂)
    (number₃ : ℕ) (m₃ : Lent) (working₃ : List (List ℕ))
    (o : opening number₃ m₃ ≡ open_with working (with_front m₂ m) (take written buffer₂))
    (ws : working₃ ≡ working_after number₃ working (with_front m₂ m).area (take written buffer₂))
    (m' : Lent) (answers' served' : List ℕ)
    (r₂ : Ran m₃ (pieces input ends answers₂ stops served₂) mid n m' (pieces input ends answers' stops served')) where
  abbrev p : Pieces
  p = pieces input ends answers stops served

  abbrev p' : Pieces
  p' = pieces input ends answers' stops served'

  abbrev h : Handed
  h = handed m p buffer working

  abbrev m₀ : Lent
  m₀ = made_front h t first

  abbrev acts : List Act
  acts = acts_to h t first mid n

  abbrev some-places : List (List ℕ)
  some-places = replicate first []

  rises : (j : ℕ) → j < n → start_of stops j ≤ get_or stops j 0
  rises j l = (ready-buffer (length input) ends (length answers) stops (length served) j (rs.all j l)).rises

  sizes-front : sizes_good (front_of first m) ≡ true
  sizes-front = front-sizes m first g.sizes g.fewest g.all

  -- ---- the first runs

  first-left : m₂ ≡ front_after h t first mid
  first-left = r₁.ran.left

  shown : Starts (start_after (new_start t some-places) (events m₀ (calls_in p mid))) (front_after h t first mid)
  shown =
      starts-after (new_start t some-places) m₀ (calls_in p mid)
      (new-starts (front_of first m) t some-places sizes-front g.threshold
      (length-replicate first [] ∙ sym (front-places m first g.sizes g.fewest g.all)))
      (calls-bytes p mid b)

  -- ---- saving and opening

  brought : Carried (front_after h t first mid) buffer (onto h t first mid)
  brought =
      carried m first g.sizes g.fewest g.all (front_after h t first mid)
      (ap (λ (x : Lent). length x.area) (sym first-left) ∙ area₂ ∙ front-area m first g.sizes g.fewest g.all)
      (start_after (new_start t some-places) (events m₀ (calls_in p mid))) shown buffer g.room

  given : AllGiven m₀ acts
  given = given-late h t first mid n half (calls-bytes p mid b) (λ c i. calls-bytes p n b c (mem-drop mid (calls_in p n) i)) brought

  demanded : (places : List (List ℕ)) → length places ≡ first → Demand3Through (new_start t places) m₀ acts
  demanded places e =
      demand3-through-new (front_of first m) t acts places sizes-front g.threshold
      (e ∙ sym (front-places m first g.sizes g.fewest g.all)) given

  demanded-some : Demand3Through (new_start t some-places) m₀ acts
  demanded-some = demanded some-places (length-replicate first [])

  both_zero : ((save_book (front_after h t first mid) buffer).number ≡ accepted) × ((open_book (onto h t first mid) (saved_in (front_after h t first mid) buffer)).number ≡ accepted)
  both_zero = opened-mid h t first mid n half demanded-some.opened

  same_bytes : take written buffer₂ ≡ saved_in (front_after h t first mid) buffer
  unfolding saved_in
  same_bytes =
      ap (λ (k : ℕ). take k buffer₂) r₁.written_is
      ∙ ap (take (save_book m₂ buffer).written) r₁.saved
      ∙ ap (λ (x : Lent). take (save_book x buffer).written (save_book x buffer).buffer) first-left

  same-opening : opening number₃ m₃ ≡ open_book (onto h t first mid) (saved_in (front_after h t first mid) buffer)
  same-opening =
      o
      ∙ with_rows working (with_front m₂ m) (take written buffer₂) (unfold with_front in (g.rows ∙ sym (length-sets m.cards 0 m₂.cards)))
      ∙ ap (λ (x : Lent). open_book (with_front x m) (take written buffer₂)) first-left
      ∙ ap (open_book (onto h t first mid)) same_bytes

  opened-left : m₃ ≡ as_opened h t first mid
  opened-left = ap (λ (x : Opening). x.lent) same-opening

  opened-zero : number₃ ≡ accepted
  opened-zero = ap (λ (x : Opening). x.number) same-opening ∙ both_zero.1

  left-mid : lent_to h t first mid mid ≡ as_opened h t first mid
  left-mid =
      lent-late h t first mid mid (omega arith)
      ∙ ap (lent_after (as_opened h t first mid)) (drop_of_length-le (calls_in p mid) {i = mid} (omega (arith, length-calls p mid)))

  rows-opened : (as_opened h t first mid).cards ≡ (opened_over (onto h t first mid).area (saved_in (front_after h t first mid) buffer)).cards
  rows-opened =
      ap (λ (x : Opening). x.lent.cards) (open_done (onto h t first mid) (saved_in (front_after h t first mid) buffer) both_zero.1)

  settled : working₃ ≡ (lent_to h t first mid mid).cards
  settled =
      ws
      ∙ ap (λ (k : ℕ). working_after k working (with_front m₂ m).area (take written buffer₂)) opened-zero
      ∙ rows-zero working (with_front m₂ m).area (take written buffer₂)
      ∙ ap (λ (x : Lent). (opened_over (with_front x m).area (take written buffer₂)).cards) first-left
      ∙ ap (λ (b : List ℕ). (opened_over (onto h t first mid).area b).cards) same_bytes
      ∙ sym rows-opened
      ∙ ap (λ (x : Lent). x.cards) (sym left-mid)

  saved : buffer₂ ≡ sets buffer 0 (saved_bytes (store_of (front_after h t first mid)))
  saved =
      r₁.saved
      ∙ ap (λ (x : Lent). (save_book x buffer).buffer) first-left
      ∙ ap (λ (x : Saving). x.buffer) (save-done (front_after h t first mid) buffer both_zero.0)

  -- ---- the other runs

  others_same : (k : ℕ) → mid ≤ k → k ≤ n → drop mid (calls_in (pieces input ends answers₂ stops served₂) k) ≡ drop mid (calls_in p k)
  others_same = same-calls p n rises mid answers₂ served₂ r₁.ran.behind

  left : m' ≡ lent_to h t first mid n
  left =
      r₂.left
      ∙ ap (λ (x : Lent). lent_after x (drop mid (calls_in (pieces input ends answers₂ stops served₂) n))) opened-left
      ∙ ap (lent_after (as_opened h t first mid)) (others_same n half (omega arith))
      ∙ sym (lent-late h t first mid n half)

  read : events_in p' n ≡ events_through m₀ acts
  read =
      r₂.read
      ∙ ap (λ (es : List Event). es ++ events m₃ (drop mid (calls_in (pieces input ends answers₂ stops served₂) n))) r₁.ran.read
      ∙ ap (λ (x : Lent). events m₀ (calls_in p mid) ++ events x (drop mid (calls_in (pieces input ends answers₂ stops served₂) n))) opened-left
      ∙ ap (λ (cs : List Call). events m₀ (calls_in p mid) ++ events (as_opened h t first mid) cs) (others_same n half (omega arith))
      ∙ sym (events-late h t first mid n half)

  counted : noted_in p' n ≡ served_through m₀ acts
  counted =
      let same : served_in m₃ (drop mid (calls_in (pieces input ends answers₂ stops served₂) n)) ≡ served_in (as_opened h t first mid) (others h t first mid n) =
      ap (λ (x : Lent). served_in x (drop mid (calls_in (pieces input ends answers₂ stops served₂) n))) opened-left
      ∙ ap (served_in (as_opened h t first mid)) (others_same n half (omega arith)) in
      omega (arith, r₂.counted, r₁.ran.counted, same, served-late h t first mid n half)

  -- Run k on what is lent then: one of the first, or one of the others.
  early : (k : ℕ) → k < mid → outcome_at (lent_after m₀ (calls_in p k)) p k ≡ outcome_at (lent_to h t first mid k) p k
  early k l = ap (λ (x : Lent). outcome_at x p k) (sym (lent-early h t first mid k l))

  late : (k : ℕ) → mid ≤ k → k < n
      → outcome_at (lent_after m₃ (drop mid (calls_in (pieces input ends answers₂ stops served₂) k))) (pieces input ends answers₂ stops served₂) k
      ≡ outcome_at (lent_to h t first mid k) p k
  late k l u =
      same_outcome p n rises mid answers₂ served₂ r₁.ran.behind k l (omega arith) m₃
      ∙ ap (λ (x : Lent). outcome_at (lent_after x (drop mid (calls_in p k))) p k) opened-left
      ∙ ap (λ (x : Lent). outcome_at x p k) (sym (lent-late h t first mid k l))

  buffers : (k : ℕ) → k < n → piece answers' stops k ≡ (outcome_at (lent_to h t first mid k) p k).answer
  buffers k u =
      cases (ltb k mid)
      (λ q.
      let l = ltb-true k mid q in
      r₂.buffers-before k l ∙ r₁.ran.buffers k (omega arith) l ∙ ap (λ (x : Outcome). x.answer) (early k l))
      (λ q.
      let l = ltb-false k mid q in
      r₂.buffers k l u ∙ ap (λ (x : Outcome). x.answer) (late k l u))

  numbers : (k : ℕ) → k < n → get_or served' k 0 ≡ (outcome_at (lent_to h t first mid k) p k).served
  numbers k u =
      cases (ltb k mid)
      (λ q.
      let l = ltb-true k mid q in
      r₂.numbers-before k l ∙ r₁.ran.numbers k (omega arith) l ∙ ap (λ (x : Outcome). x.served) (early k l))
      (λ q.
      let l = ltb-false k mid q in
      r₂.numbers k l u ∙ ap (λ (x : Outcome). x.served) (late k l u))

  pub grown : Grown h t first mid n (handed m' p' buffer₂ working₃)
  grown = record {
    runs = rs;
    made = made-zero (front_of first m) t sizes-front g.threshold;
    opened = demanded-some.opened;
    left = left;
    read = read;
    counted = counted;
    buffers = buffers;
    numbers = numbers;
    behind = r₂.behind ∙ still p n rises mid answers₂ served₂ r₁.ran.behind n half (omega arith);
    unused = r₂.unused ∙ drop_more (n - mid) mid n (omega (arith, half)) served₂ served r₁.ran.unused;
    saved = saved;
    settled = settled;
    complete = ap length read ∙ demanded-some.complete ∙ sym counted;
    holds = λ places e. rw (left, read) (demanded places e).holds;
  }

-- ---- by what the calls return

pub ran-saved : (m : Lent) (t : ℕ) (p : Pieces) (n : ℕ) (buffer : List ℕ) (number : ℕ) (m₁ : Lent) → made number m₁ ≡ make m t
    → (m₂ : Lent) (p₂ : Pieces) → Ran m₁ p 0 n m₂ p₂
    → (number₂ written : ℕ) (buffer₂ : List ℕ) → saving number₂ written buffer₂ ≡ save_book m₂ buffer
    → RanSaved m t p n buffer written m₂ p₂ buffer₂
ran-saved m t p n buffer number m₁ e m₂ p₂ r number₂ written buffer₂ q =
    let same : m₁ ≡ (make m t).lent = ap (λ (x : Made). x.lent) e in
    record {
      ran = rw (← same) r;
      written_is = ap (λ (x : Saving). x.written) q;
      saved = ap (λ (x : Saving). x.buffer) q;
    }

-- ---- with its number

pub refused-grown : (h : Handed) (t first earlier number : ℕ) → number ≡ grown_number h t first → (number ≡ 0 → ⊥)
    → PerformsGrown h t first earlier number 0 h
refused-grown h t first earlier number e q = record { number_is = e; refused = λ _. (refl, refl); done = λ z. absurd (q z) }

pub performed-grown : (h : Handed) (t first earlier number n : ℕ) (h' : Handed) → number ≡ grown_number h t first → number ≡ 0
    → (mid : ℕ) → mid ≡ min earlier n → Grown h t first mid n h' → PerformsGrown h t first earlier number n h'
performed-grown h t first earlier number n h' e z mid q g = record { number_is = e; refused = λ y. absurd (y z); done = λ _. rw (← q) g }
