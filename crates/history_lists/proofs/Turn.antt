-- One run more. It writes its own buffer and its own number, and these lie behind those of the runs before: what was read off them stays.
use Prim.Native.Nat.{ℕ, zero, suc, ◌+◌, ◌-◌, ◌≤◌, ◌<◌}
use mathlib.Core.Path.{◌≡◌, refl, sym, ◌∙◌, ap}
use mathlib.Core.List.{List, [], ◌∷◌, ◌++◌, append-nil, append_assoc}
use mathlib.Core.Option
use native.Mathlib.Omega.{arith}
use borrow.Author.Tests.{eqb-true, eqb-false}
use lib.Dec.{eqb}
use lib.ListN.{length, get_or, take, drop, set, length-append, drop_of_length-le}
use lib.Seq.{sets, get_or-set_same, get_or-set_other, drop-set-lt, drop-drop, drop-append-le}
use Rattle.coding.proofs.Sets.{length_part, part_same, part-before, drop-behind}
use Rattle.ldc.specs.Lent.{Lent}
use Rattle.ldc.specs.Request.{Request}
use Rattle.ldc.specs.Run.{Outcome, split, run}
use Rattle.ldc.specs.History.{Call, Event, replies_at, paired, events_of, events, lent_after, served_in}
use Rattle.ldc.proofs.Basics.Cases.{cases}
use Rattle.history_lists.specs.Pieces.{Pieces, pieces, start_of, piece, call_at, calls_in, events_at, events_in, noted_in}
use Rattle.history_lists.specs.Performs.{outcome_at, RanOne, Ran}
use Rattle.history_lists.proofs.Starts.{starts-rise}
use Rattle.history_lists.proofs.Added.{lent-added, events-added, served-added, answer-length}

-- ---- parts of pieces

length-piece : (bytes ends : List ℕ) (k : ℕ) → start_of ends k ≤ get_or ends k 0 → get_or ends k 0 ≤ length bytes
    → length (piece bytes ends k) ≡ get_or ends k 0 - start_of ends k
unfolding piece
length-piece bytes ends k r w = length_part bytes (start_of ends k) (get_or ends k 0 - start_of ends k) (omega arith)

-- Bytes that agree from the start on have the same piece.
pub piece-same : (bytes bytes' ends : List ℕ) (k : ℕ) → drop (start_of ends k) bytes ≡ drop (start_of ends k) bytes' → piece bytes ends k ≡ piece bytes' ends k
unfolding piece
piece-same bytes bytes' ends k e = ap (take (get_or ends k 0 - start_of ends k)) e

-- A piece written over its whole length.
piece-set : (bytes ends vs : List ℕ) (k : ℕ) → length vs ≡ get_or ends k 0 - start_of ends k → start_of ends k ≤ get_or ends k 0 → get_or ends k 0 ≤ length bytes
    → piece (sets bytes (start_of ends k) vs) ends k ≡ vs
unfolding piece
piece-set bytes ends vs k n r w =
    ap (λ (x : ℕ). take x (drop (start_of ends k) (sets bytes (start_of ends k) vs))) (sym n)
    ∙ part_same bytes (start_of ends k) vs (omega arith)

-- An earlier piece stays.
piece-before : (bytes ends vs : List ℕ) (j k : ℕ) → start_of ends j ≤ get_or ends j 0 → get_or ends j 0 ≤ start_of ends k
    → piece (sets bytes (start_of ends k) vs) ends j ≡ piece bytes ends j
unfolding piece
piece-before bytes ends vs j k r w = part-before bytes (start_of ends k) vs (start_of ends j) (get_or ends j 0 - start_of ends j) (omega arith)

-- Lists that agree from a position on agree from a later one on.
pub drop_more : (n at to : ℕ) → at + n ≡ to → (xs ys : List ℕ) → drop at xs ≡ drop at ys → drop to xs ≡ drop to ys
drop_more n at to up xs ys e =
    ap (λ (i : ℕ). drop i xs) (sym up) ∙ sym (drop-drop n at xs) ∙ ap (drop n) e ∙ drop-drop n at ys ∙ ap (λ (i : ℕ). drop i ys) up

-- ---- what was read off before stays

-- Run k's buffer and its number written.
abbrev later : Pieces → (k : ℕ) → (vs : List ℕ) → (x : ℕ) → Pieces
later p k vs x = pieces p.input p.ends (sets p.answers (start_of p.stops k) vs) p.stops (set p.served k x)

module _ (p : Pieces) (k : ℕ) (rises : (j : ℕ) → j < suc k → start_of p.stops j ≤ get_or p.stops j 0) (vs : List ℕ) (x : ℕ) where
  number-before : (j : ℕ) → j < k → get_or (set p.served k x) j 0 ≡ get_or p.served j 0
  number-before j h = get_or-set_other p.served k j x 0 (λ e. absurd (omega arith))

  buffer-before : (j : ℕ) → j < k → piece (sets p.answers (start_of p.stops k) vs) p.stops j ≡ piece p.answers p.stops j
  buffer-before j h =
      piece-before p.answers p.stops vs j k (rises j (omega arith))
      (starts-rise p.stops k (λ i l. rises i (omega arith)) (suc j) (omega arith))

  event-before : (j : ℕ) → j < k → events_at (later p k vs x) j ≡ events_at p j
  unfolding events_at
  event-before j h =
      ap (λ (b : List ℕ). paired (Option.get_or (split (piece p.input p.ends j)) []) (replies_at (get_or (set p.served k x) j 0) b 0)) (buffer-before j h)
      ∙ ap (λ (n : ℕ). paired (Option.get_or (split (piece p.input p.ends j)) []) (replies_at n (piece p.answers p.stops j) 0)) (number-before j h)

  pub events-before : (j : ℕ) → j ≤ k → events_in (later p k vs x) j ≡ events_in p j
  events-before zero h = refl
  events-before (suc j) h =
      ap (λ (es : List Event). es ++ events_at (later p k vs x) j) (events-before j (omega arith))
      ∙ ap (λ (es : List Event). events_in p j ++ es) (event-before j (omega arith))

  pub noted-before : (j : ℕ) → j ≤ k → noted_in (later p k vs x) j ≡ noted_in p j
  noted-before zero h = refl
  noted-before (suc j) h = omega (arith, noted-before j (omega arith), number-before j (omega arith))

-- ---- one run more

pub length-calls : (p : Pieces) (n : ℕ) → length (calls_in p n) ≡ n
length-calls p zero = refl
length-calls p (suc k) = omega (arith, length-append (calls_in p k) (call_at p k ∷ []), length-calls p k)

-- At the start nothing is run.
pub ran-none : (m : Lent) (p : Pieces) (from : ℕ) → Ran m p from from m p
ran-none m p from =
    let none : drop from (calls_in p from) ≡ [] = drop_of_length-le (calls_in p from) {i = from} (omega (arith, length-calls p from)) in
    record {
      left = rw none;
      read = rw none (sym (append-nil (events_in p from)));
      counted = rw none (omega arith);
      buffers = λ k l h. absurd (omega arith);
      numbers = λ k l h. absurd (omega arith);
      buffers-before = λ k h. refl;
      numbers-before = λ k h. refl;
      behind = refl;
      unused = refl;
    }

abbrev pub called : (list answer : List ℕ) → Call
called list answer = record { list = list; answer = answer }

module _ (m₀ : Lent) (input ends stops answers₀ served₀ : List ℕ) (from k : ℕ) (behind-from : from ≤ k) (rises : (j : ℕ) → j < suc k → start_of stops j ≤ get_or stops j 0) (m : Lent) (answers served : List ℕ) (within : get_or stops k 0 ≤ length answers) (room : k < length served) (g : Ran m₀ (pieces input ends answers₀ stops served₀) from k m (pieces input ends answers stops served)) where
  abbrev p₀ : Pieces
  p₀ = pieces input ends answers₀ stops served₀

  abbrev p : Pieces
  p = pieces input ends answers stops served

  abbrev c : Call
  c = call_at p₀ k

  abbrev cs : List Call
  cs = drop from (calls_in p₀ k)

  one_more : drop from (calls_in p₀ (suc k)) ≡ cs ++ (c ∷ [])
  one_more = drop-append-le from (calls_in p₀ k) (c ∷ []) (omega (arith, length-calls p₀ k, behind-from))

  -- The buffer is yet as it was handed over.
  same-call : call_at p k ≡ c
  unfolding call_at
  same-call = ap (λ (b : List ℕ). called (piece input ends k) b) (piece-same answers answers₀ stops k g.behind)

  same_outcome : outcome_at m p k ≡ run (lent_after m₀ cs) c.list c.answer
  unfolding outcome_at
  same_outcome =
      ap (λ (x : Lent). run x (call_at p k).list (call_at p k).answer) g.left
      ∙ ap (λ (x : Call). run (lent_after m₀ cs) x.list x.answer) same-call

  as-defined : outcome_at m p k ≡ outcome_at (lent_after m₀ cs) p₀ k
  unfolding outcome_at
  as-defined = same_outcome

  abbrev o : Outcome
  o = outcome_at m p k

  long : length o.answer ≡ get_or stops k 0 - start_of stops k
  unfolding outcome_at call_at
  long =
      answer-length m (piece input ends k) (piece answers stops k)
      ∙ length-piece answers stops k (rises k (omega arith)) within

  buffer-one : piece (sets answers (start_of stops k) o.answer) stops k ≡ o.answer
  buffer-one = piece-set answers stops o.answer k long (rises k (omega arith)) within

  number-one : get_or (set served k o.served) k 0 ≡ o.served
  number-one = get_or-set_same served k o.served 0 room

  -- What is read off this run is what the definition's run says.
  read_one : events_at (later p k o.answer o.served) k ≡ events_of c.list (run (lent_after m₀ cs) c.list c.answer)
  unfolding events_at events_of call_at
  read_one =
      let asked : List Request = Option.get_or (split (piece input ends k)) [] in
      ap (λ (b : List ℕ). paired asked (replies_at (get_or (set served k o.served) k 0) b 0)) buffer-one
      ∙ ap (λ (n : ℕ). paired asked (replies_at n o.answer 0)) number-one
      ∙ ap (λ (x : Outcome). paired asked (replies_at x.served x.answer 0)) same_outcome

  behind-one : drop (get_or stops k 0) (sets answers (start_of stops k) o.answer) ≡ drop (get_or stops k 0) answers₀
  behind-one =
      let n : ℕ = get_or stops k 0 - start_of stops k in
      let up : start_of stops k + n ≡ get_or stops k 0 = omega (arith, rises k (omega arith)) in
      drop-behind answers (start_of stops k) o.answer (get_or stops k 0) (omega (arith, long, rises k (omega arith)))
      ∙ drop_more n (start_of stops k) (get_or stops k 0) up answers answers₀ g.behind

  unused-one : drop (suc k) (set served k o.served) ≡ drop (suc k) served₀
  unused-one = drop-set-lt (suc k) served k o.served (omega arith) ∙ drop_more 1 k (suc k) (omega arith) served served₀ g.unused

  ran-later : (m' : Lent) → m' ≡ o.lent → Ran m₀ p₀ from (suc k) m' (later p k o.answer o.served)
  ran-later m' e = record {
    left = e ∙ ap (λ (x : Outcome). x.lent) same_outcome ∙ sym (lent-added m₀ cs c) ∙ sym (ap (lent_after m₀) one_more);
    read =
        ap (λ (es : List Event). es ++ events_at (later p k o.answer o.served) k) (events-before p k rises o.answer o.served k (omega arith) ∙ g.read)
        ∙ ap (λ (es : List Event). (events_in p₀ from ++ events m₀ cs) ++ es) read_one
        ∙ append_assoc (events_in p₀ from) (events m₀ cs) (events_of c.list (run (lent_after m₀ cs) c.list c.answer))
        ∙ ap (λ (es : List Event). events_in p₀ from ++ es) (sym (events-added m₀ cs c) ∙ sym (ap (events m₀) one_more));
    counted = omega (
      arith,
      noted-before p k rises o.answer o.served k (omega arith),
      g.counted,
      number-one,
      ap (λ (x : Outcome). x.served) same_outcome,
      served-added m₀ cs c,
      ap (served_in m₀) one_more,
    );
    buffers = λ j f h.
        cases (eqb j k) (λ q. rw (eqb-true j k q) (buffer-one ∙ ap (λ (x : Outcome). x.answer) as-defined))
        (λ q.
        let l : j < k = omega (arith, h, eqb-false j k q) in
        buffer-before p k rises o.answer o.served j l ∙ g.buffers j f l);
    numbers = λ j f h.
        cases (eqb j k) (λ q. rw (eqb-true j k q) (number-one ∙ ap (λ (x : Outcome). x.served) as-defined))
        (λ q.
        let l : j < k = omega (arith, h, eqb-false j k q) in
        number-before p k rises o.answer o.served j l ∙ g.numbers j f l);
    buffers-before = λ j h. buffer-before p k rises o.answer o.served j (omega (arith, h, behind-from)) ∙ g.buffers-before j h;
    numbers-before = λ j h. number-before p k rises o.answer o.served j (omega (arith, h, behind-from)) ∙ g.numbers-before j h;
    behind = behind-one;
    unused = unused-one;
  }

  pub ran-more : (m' : Lent) (answers' served' : List ℕ) → RanOne m p k m' (pieces input ends answers' stops served')
      → Ran m₀ p₀ from (k + 1) m' (pieces input ends answers' stops served')
  ran-more m' answers' served' r =
      let e : k + 1 ≡ suc k = omega arith in
      rw (e, r.answered, r.noted) (ran-later m' r.left)
