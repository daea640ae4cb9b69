-- A run over the rest of a list, as `next_piece` has it done: it is accepted where the list is split, and what it gives is the next piece.
use Prim.Native.Nat.{ℕ, ◌+◌, ◌-◌, ◌*◌, ◌≤◌}
use mathlib.Core.Path.{◌≡◌, refl, sym, ◌∙◌, ap}
use mathlib.Core.Bool.{cond}
use mathlib.Core.List.{List, [], ◌∷◌, ◌++◌}
use mathlib.Core.Option.{Option, some, none, map, get_or}
use native.Mathlib.Omega.{arith}
use lib.ListN.{length, take, drop, length-drop}
use lib.Seq.{take_all, take-add, drop-nil, sets}
use Rattle.coding.specs.Number.{Bytes}
use Rattle.ldc.specs.Lists.{is_some}
use Rattle.ldc.specs.Store.{Store}
use Rattle.ldc.specs.Lent.{Lent, lent_of}
use Rattle.ldc.specs.Request.{Request}
use Rattle.ldc.specs.Run.{accepted, broken_list, list_limit, split, room_limit, ServedAll, serve_all, Outcome, refused_run, accepted_run, run}
use Rattle.ldc.proofs.Basics.Cases.{maybe}
use Rattle.ldc.proofs.Stores.Sound.{Sound, Whole}
use Rattle.ldc.proofs.Serving.Runs.{run-unsplit, run-served}
use Rattle.std.specs.Prelude.{Result}
use Rattle.wire.specs.Refusal.{number_of}
use Rattle.wire.specs.declared.refusal.Refusal.{Refusal}
use Rattle.serve_list.specs.Ran.{ran, requests_of}
use Rattle.store_run.specs.Ran.{ran_in}
use Rattle.store_run.specs.declared.Ran.{Ran}
use Rattle.survey_deliver.specs.Whole.{served_first, size_of, position_of, Reached, next_of, Next}
use Rattle.survey_deliver.specs.declared.piece.Progress.{Progress}
use Rattle.survey_deliver.proofs.Along.{kept, done-few, reached-others, reached-count, reached-bytes}
use Rattle.survey_deliver.proofs.Pieces.{next-reached}

-- The part of the list that the code takes.
pub part-rest : (list : List ℕ) (at : ℕ) → take (length list - at) (drop at list) ≡ drop at list
part-rest list at = take_all (length list - at) (drop at list) (omega (arith, length-drop at list))

-- ---- positions

size-append : (rs qs : List Request) → size_of (rs ++ qs) ≡ size_of rs + size_of qs
size-append [] qs = omega arith
size-append (r ∷ rs) qs = omega (arith, size-append rs qs)

position-add : (list : List ℕ) (n k : ℕ) → position_of list (n + k) ≡ position_of list n + size_of (take k (drop n (requests_of list)))
unfolding position_of
position-add list n k = ap size_of (take-add n k (requests_of list)) ∙ size-append (take n (requests_of list)) (take k (drop n (requests_of list)))

-- ---- the run

map-drop : (n : ℕ) (o : Option (List Request)) → get_or (map (λ rs. drop n rs) o) [] ≡ drop n (get_or o [])
map-drop n none = sym (drop-nil n)
map-drop n (some rs) = refl

-- A run over the rest of the list, with room for at least one reply: what it returned and left.
pub record Stretch (list : List ℕ) (m : Lent) (from : Progress) (answer part : List ℕ) (number n w : ℕ) (m' : Lent) (answer' : List ℕ) : Type 0 where
  pub reached : Reached list m from
  pub bytes : Bytes list
  pub room : room_limit ≤ length answer
  pub same : part ≡ drop from.at list
  pub said : ran number n w m' answer' ≡ run m part answer

-- The same by what a run over the code's part of the list ended in.
pub stretched : (list : List ℕ) (m : Lent) (from : Progress) (answer : List ℕ) (r : Result Ran Refusal) (o : Ran) (m' : Lent) (answer' : List ℕ)
    → o ≡ ran_in r → Reached list m from → Bytes list → room_limit ≤ length answer
    → ran (number_of r) (ran_in r).served (ran_in r).written m' answer' ≡ run m (take (length list - from.at) (drop from.at list)) answer
    → Stretch list m from answer (take (length list - from.at) (drop from.at list)) (number_of r) o.served o.written m' answer'
stretched list m from answer r o m' answer' e reached bytes room said =
    record { reached = reached; bytes = bytes; room = room; same = part-rest list from.at; said = rw e said }

module _ {list : List ℕ} {m : Lent} {from : Progress} {answer part : List ℕ} {number n w : ℕ} {m' : Lent} {answer' : List ℕ}
    (st : Stretch list m from answer part number n w m' answer') where
  abbrev rs : List Request
  rs = requests_of list

  abbrev s : Store
  s = (served_first list from.served).store

  abbrev done : ServedAll
  done = next_of list from.served (length answer)

  others : split (drop from.at list) ≡ map (λ xs. drop from.served xs) (split list)
  others = (reached-others st.reached).1

  sound : Sound s × Whole s
  sound = kept list from.served st.bytes

  said : ran number n w m' answer' ≡ run (lent_of s) (drop from.at list) answer
  said =
      st.said ∙ ap (λ (x : Lent). run x part answer) st.reached.left
      ∙ ap (λ (x : List ℕ). run (lent_of s) x answer) st.same

  refused : split list ≡ none → ran number n w m' answer' ≡ refused_run broken_list (lent_of s) answer
  refused q =
      said ∙ run-unsplit s sound.0 sound.1 (drop from.at list) answer st.room
      (others ∙ ap (map (λ (xs : List Request). drop from.served xs)) q)

  served : (xs : List Request) → split list ≡ some xs → ran number n w m' answer' ≡ accepted_run (serve_all (length answer) s (drop from.served xs)) answer
  served xs q =
      said ∙ run-served s sound.0 sound.1 (drop from.at list) answer st.room (drop from.served xs)
      (others ∙ ap (map (λ (ys : List Request). drop from.served ys)) q)

  -- Refused or served, it is this.
  outcome : ran number n w m' answer'
      ≡ ran (cond (is_some (split list)) accepted broken_list) done.served (length done.bytes) (lent_of done.store) (sets answer 0 done.bytes)
  unfolding next_of
  outcome = maybe (split list) (λ q. rw (q, drop-nil from.served) (refused q)) (λ xs q. rw q (served xs q))

  requests-part : requests_of part ≡ drop from.served rs
  requests-part = ap (λ (x : Option (List Request)). get_or x []) (ap split st.same ∙ others) ∙ map-drop from.served (split list)

  n-is : n ≡ done.served
  n-is = ap (λ (x : Outcome). x.served) outcome

  w-is : w ≡ length done.bytes
  w-is = ap (λ (x : Outcome). x.written) outcome

  pub stretch-few : n ≤ length (requests_of part)
  stretch-few = omega (arith, n-is, done-few list from.served (length answer), ap length requests-part, length-drop from.served rs)

  -- With the position behind it, it is the next piece.
  pub stretch-next : (k : ℕ) → k ≡ position_of part n
      → Next list from answer m' answer' number w (record { served = from.served + n; at = from.at + k; written = from.written + w })
  unfolding position_of
  stretch-next k e = record {
    numbered = ap (λ (x : Outcome). x.number) outcome;
    left = ap (λ (x : Outcome). x.lent) outcome;
    answered = ap (λ (x : Outcome). x.answer) outcome;
    measured = w-is;
    served = ap (λ (x : ℕ). from.served + x) n-is;
    passed =
        let add = position-add list from.served n in
        omega (arith, e, st.reached.passed, add, ap (λ (xs : List Request). size_of (take n xs)) requests-part);
    handed = refl;
  }

  -- Its sums stay within what lists and answers can be.
  module _ (k : ℕ) (e : k ≡ position_of part n) where
    reached : Reached list m' (record { served = from.served + n; at = from.at + k; written = from.written + w })
    reached = next-reached st.reached (stretch-next k e)

    pub stretch-count : from.served + n ≤ list_limit
    stretch-count = reached-count reached

    pub stretch-at : from.at + k ≤ length list
    stretch-at = (reached-others reached).0

    pub stretch-bytes : from.written + w ≤ room_limit * list_limit
    stretch-bytes = reached-bytes reached st.bytes
