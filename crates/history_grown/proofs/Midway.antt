-- The acts of a history with an opening in it: the runs before it, saving and opening, and the other runs, whose lists and buffers are yet as they
-- were handed over. Memory, events and numbers of the acts are those of the two histories, one behind the other.
use Prim.Native.Nat.{ℕ, zero, suc, ◌+◌, ◌-◌, ◌≤◌, ◌<◌}
use mathlib.Core.Path.{◌≡◌, refl, sym, ◌∙◌, ap}
use mathlib.Core.List.{List, [], ◌∷◌, ◌++◌, map, Memᴰ}
use native.Mathlib.Omega.{arith}
use borrow.Author.Tests.{eqb-true, eqb-false, lt-ltb, le-ltb}
use lib.Dec.{eqb}
use lib.ListN.{get_or, drop, drop_of_length-le}
use lib.Seq.{drop-append-le}
use Rattle.coding.specs.Number.{Bytes}
use Rattle.ldc.specs.Lent.{Lent}
use Rattle.ldc.specs.Run.{accepted, run}
use Rattle.ldc.specs.History.{Call, Event, events, lent_after, served_in}
use Rattle.ldc.proofs.Basics.Cases.{cases}
use Rattle.saved_book.specs.Calls.{save_book, open_book}
use Rattle.saved_history.specs.History.{Act, ran, reopened, saved_in, after_act, lent_through, events_through, served_through, Carried, AllGiven, AllOpened}
use Rattle.saved_history.proofs.Acts.{lent-behind, events-behind, served-behind, given-behind, opened-behind, lent_runs, events-runs, served-runs, given-runs}
use Rattle.history_lists.specs.Pieces.{Pieces, pieces, start_of, piece, call_at, calls_in}
use Rattle.history_lists.specs.Performs.{outcome_at}
use Rattle.history_grown.specs.Grown.{Handed, with_front, made_front, front_after, acts_to, lent_to}
use Rattle.history_lists.proofs.Starts.{starts-rise}
use Rattle.history_lists.proofs.Turn.{piece-same, drop_more, length-calls, called}

-- ---- the other calls are yet as they were handed over

module _ (p : Pieces) (n : ℕ) (rises : (j : ℕ) → j < n → start_of p.stops j ≤ get_or p.stops j 0)
    (mid : ℕ) (answers₂ served₂ : List ℕ) (behind : drop (start_of p.stops mid) answers₂ ≡ drop (start_of p.stops mid) p.answers) where
  abbrev p₂ : Pieces
  p₂ = pieces p.input p.ends answers₂ p.stops served₂

  pub still : (k : ℕ) → mid ≤ k → k ≤ n → drop (start_of p.stops k) answers₂ ≡ drop (start_of p.stops k) p.answers
  still k l u =
      let up = starts-rise p.stops k (λ j q. rises j (omega (arith, q, u))) mid l in
      drop_more (start_of p.stops k - start_of p.stops mid) (start_of p.stops mid) (start_of p.stops k) (omega (arith, up)) answers₂ p.answers behind

  same-call : (k : ℕ) → mid ≤ k → k ≤ n → call_at p₂ k ≡ call_at p k
  unfolding call_at
  same-call k l u = ap (λ (b : List ℕ). called (piece p.input p.ends k) b) (piece-same answers₂ p.answers p.stops k (still k l u))

  pub same-calls : (k : ℕ) → mid ≤ k → k ≤ n → drop mid (calls_in p₂ k) ≡ drop mid (calls_in p k)
  same-calls zero l u = refl
  same-calls (suc k) l u =
      cases (eqb mid (suc k))
      (λ q.
      let e = eqb-true mid (suc k) q in
      drop_of_length-le (calls_in p₂ (suc k)) {i = mid} (omega (arith, e, length-calls p₂ (suc k)))
      ∙ sym (drop_of_length-le (calls_in p (suc k)) {i = mid} (omega (arith, e, length-calls p (suc k)))))
      (λ q.
      let l' : mid ≤ k = omega (arith, l, eqb-false mid (suc k) q) in
      drop-append-le mid (calls_in p₂ k) (call_at p₂ k ∷ []) (omega (arith, l', length-calls p₂ k))
      ∙ ap (λ (cs : List Call). cs ++ (call_at p₂ k ∷ [])) (same-calls k l' (omega arith))
      ∙ ap (λ (c : Call). drop mid (calls_in p k) ++ (c ∷ [])) (same-call k l' (omega arith))
      ∙ sym (drop-append-le mid (calls_in p k) (call_at p k ∷ []) (omega (arith, l', length-calls p k))))

  pub same_outcome : (k : ℕ) → mid ≤ k → k ≤ n → (m : Lent) → outcome_at (lent_after m (drop mid (calls_in p₂ k))) p₂ k ≡ outcome_at (lent_after m (drop mid (calls_in p k))) p k
  unfolding outcome_at
  same_outcome k l u m =
      ap (λ (cs : List Call). run (lent_after m cs) (call_at p₂ k).list (call_at p₂ k).answer) (same-calls k l u)
      ∙ ap (λ (c : Call). run (lent_after m (drop mid (calls_in p k))) c.list c.answer) (same-call k l u)

-- ---- the acts

module _ (h : Handed) (t first mid : ℕ) where
  abbrev pub onto : Lent
  onto = with_front (front_after h t first mid) h.lent

  abbrev reopening : Act
  reopening = reopened h.buffer onto

  abbrev pub others : ℕ → List Call
  others k = drop mid (calls_in h.pieces k)

  abbrev pub as_opened : Lent
  as_opened = after_act (front_after h t first mid) reopening

  acts-early : (k : ℕ) → k < mid → acts_to h t first mid k ≡ map ran (calls_in h.pieces k)
  unfolding acts_to
  acts-early k l = rw (lt-ltb k mid l)

  acts-late : (k : ℕ) → mid ≤ k → acts_to h t first mid k ≡ map ran (calls_in h.pieces mid) ++ (reopening ∷ map ran (others k))
  unfolding acts_to
  acts-late k l = rw (le-ltb k mid l)

  pub lent-early : (k : ℕ) → k < mid → lent_to h t first mid k ≡ lent_after (made_front h t first) (calls_in h.pieces k)
  lent-early k l = ap (lent_through (made_front h t first)) (acts-early k l) ∙ lent_runs (made_front h t first) (calls_in h.pieces k)

  pub lent-late : (k : ℕ) → mid ≤ k → lent_to h t first mid k ≡ lent_after as_opened (others k)
  lent-late k l =
      ap (lent_through (made_front h t first)) (acts-late k l)
      ∙ lent-behind (made_front h t first) (map ran (calls_in h.pieces mid)) (reopening ∷ map ran (others k))
      ∙ ap (λ (x : Lent). lent_through (after_act x reopening) (map ran (others k))) (lent_runs (made_front h t first) (calls_in h.pieces mid))
      ∙ lent_runs as_opened (others k)

  pub events-late : (k : ℕ) → mid ≤ k
      → events_through (made_front h t first) (acts_to h t first mid k) ≡ events (made_front h t first) (calls_in h.pieces mid) ++ events as_opened (others k)
  events-late k l =
      ap (events_through (made_front h t first)) (acts-late k l)
      ∙ events-behind (made_front h t first) (map ran (calls_in h.pieces mid)) (reopening ∷ map ran (others k))
      ∙ ap (λ (es : List Event). es ++ events_through (lent_through (made_front h t first) (map ran (calls_in h.pieces mid))) (reopening ∷ map ran (others k)))
      (events-runs (made_front h t first) (calls_in h.pieces mid))
      ∙ ap (λ (x : Lent). events (made_front h t first) (calls_in h.pieces mid) ++ events_through (after_act x reopening) (map ran (others k)))
      (lent_runs (made_front h t first) (calls_in h.pieces mid))
      ∙ ap (λ (es : List Event). events (made_front h t first) (calls_in h.pieces mid) ++ es) (events-runs as_opened (others k))

  pub served-late : (k : ℕ) → mid ≤ k
      → served_through (made_front h t first) (acts_to h t first mid k) ≡ served_in (made_front h t first) (calls_in h.pieces mid) + served_in as_opened (others k)
  served-late k l =
      let m₁ : Lent = lent_through (made_front h t first) (map ran (calls_in h.pieces mid)) in
      let same : served_through (after_act m₁ reopening) (map ran (others k)) ≡ served_in as_opened (others k) =
      ap (λ (x : Lent). served_through (after_act x reopening) (map ran (others k))) (lent_runs (made_front h t first) (calls_in h.pieces mid))
      ∙ served-runs as_opened (others k) in
      ap (served_through (made_front h t first)) (acts-late k l)
      ∙ omega (
        arith,
        served-behind (made_front h t first) (map ran (calls_in h.pieces mid)) (reopening ∷ map ran (others k)),
        served-runs (made_front h t first) (calls_in h.pieces mid),
        same,
      )

  -- What is given: bytes, and a store that can be carried over.
  pub given-late : (k : ℕ) → mid ≤ k → ((c : Call) → Memᴰ c (calls_in h.pieces mid) → Bytes c.list) → ((c : Call) → Memᴰ c (others k) → Bytes c.list)
      → Carried (front_after h t first mid) h.buffer onto → AllGiven (made_front h t first) (acts_to h t first mid k)
  given-late k l b b' c =
      let m₀ : Lent = made_front h t first in
      let same = lent_runs m₀ (calls_in h.pieces mid) in
      rw (acts-late k l)
      (given-behind m₀ (map ran (calls_in h.pieces mid)) (reopening ∷ map ran (others k)) (given-runs m₀ (calls_in h.pieces mid) b)
      (rw same (c, given-runs as_opened (others k) b')))

  -- Saving and opening then give 0.
  pub opened-mid : (k : ℕ) → mid ≤ k → AllOpened (made_front h t first) (acts_to h t first mid k)
      → ((save_book (front_after h t first mid) h.buffer).number ≡ accepted) × ((open_book onto (saved_in (front_after h t first mid) h.buffer)).number ≡ accepted)
  opened-mid k l o =
      let o' : AllOpened (made_front h t first) (map ran (calls_in h.pieces mid) ++ (reopening ∷ map ran (others k))) = rw (acts-late k l) at o in
      let q = opened-behind (made_front h t first) (map ran (calls_in h.pieces mid)) (reopening ∷ map ran (others k)) o' in
      let q' = rw (lent_runs (made_front h t first) (calls_in h.pieces mid)) at q in
      q'.0
