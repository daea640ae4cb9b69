-- One piece after the other: the laws of `Next`. Behind the next piece the list is reached again, and the piece is what stands next in the answers.
-- With room for a reply a piece serves at least one request where bytes are left, so there is an end; there, all requests are served.
use Prim.Native.Nat.{ℕ, zero, suc, ◌+◌, ◌*◌, ◌≤◌, ◌<◌}
use mathlib.Core.Path.{◌≡◌, refl, sym, ◌∙◌, ap}
use mathlib.Core.Bool.{Bool, true, false, cond, true≢false}
use mathlib.Core.List.{List, [], ◌++◌}
use mathlib.Core.Option.{Option, some, map, get_or}
use native.Mathlib.Omega.{arith}
use borrow.Author.Tests.{ltb-true, ltb-false}
use lib.Dec.{ltb, lit≤}
use lib.ListN.{length, take, drop, length-append, length-drop, drop_of_length-le}
use lib.Seq.{take_all, drop_at, take-append_seam}
use Rattle.coding.specs.Number.{Bytes}
use Rattle.coding.proofs.Sets.{part_same}
use Rattle.ldc.specs.Lists.{is_some}
use Rattle.ldc.specs.Lent.{Lent, lent_of}
use Rattle.ldc.specs.Request.{Request}
use Rattle.ldc.specs.Run.{accepted, broken_list, split, room_limit, ServedAll, accepted_run, run}
use Rattle.ldc.proofs.Basics.Cases.{cases, maybe}
use Rattle.ldc.proofs.Serving.Splits.{split-bytes}
use Rattle.ldc.proofs.Serving.Runs.{run-served}
use Rattle.serve_list.specs.Ran.{requests_of}
use Rattle.survey_deliver.specs.Whole.{new_one, serve_each, served_first, answers_of, Piece, Reached, next_of, Next, piece_room, served_after, Told, Finished}
use Rattle.survey_deliver.specs.declared.piece.Progress.{Progress}
use Rattle.survey_deliver.proofs.Each.{enough}
use Rattle.survey_deliver.proofs.Fresh.{sound-one, whole-one}
use Rattle.survey_deliver.proofs.Along.{done-few, done-some, done-fits, next-store, next-bytes, all-bytes, later, reached-others, reached-more}

-- ---- the next piece

module _ {list : List ℕ} {m : Lent} {from : Progress} {answer : List ℕ} {m' : Lent} {answer' : List ℕ} {number long : ℕ} {to : Progress}
    (a : Reached list m from) (x : Next list from answer m' answer' number long to) where
  abbrev room : ℕ
  room = length answer

  abbrev made : ServedAll
  made = next_of list from.served room

  -- Behind the piece the list is reached again.
  pub next-reached : Reached list m' to
  next-reached = record {
    counted = omega (arith, x.served, done-few list from.served room, a.counted);
    passed = x.passed;
    handed =
        let all : length (served_first list to.served).bytes ≡ length (served_first list (from.served + made.served)).bytes =
        ap (λ (k : ℕ). length (served_first list k).bytes) x.served in
        omega (arith, x.handed, x.measured, a.handed, all, ap length (next-bytes list from.served room), length-append (served_first list from.served).bytes made.bytes);
    left = x.left ∙ ap lent_of (sym (next-store list from.served room)) ∙ ap (λ (k : ℕ). lent_of (served_first list k).store) (sym x.served);
  }

  pub next-length : Bytes list → long ≤ length answer
  next-length b = omega (arith, x.measured, done-fits list from.served room b)

  pub piece_is : Bytes list → take long answer' ≡ made.bytes
  piece_is b =
      ap (λ (k : ℕ). take k answer') x.measured
      ∙ ap (λ (y : List ℕ). take (length made.bytes) y) x.answered
      ∙ part_same answer 0 made.bytes (omega (arith, done-fits list from.served room b))

  -- It is what stands next in the answers.
  pub next-piece : Bytes list → Piece list from.written (take long answer')
  unfolding Piece
  next-piece b =
      let after = later list from.served room in
      rw (piece_is b)
      (ap (λ (y : List ℕ). take (length made.bytes) (drop from.written y)) (all-bytes list from.served room)
      ∙ ap (λ (y : List ℕ). take (length made.bytes) y) (drop_at (served_first list from.served).bytes (made.bytes ++ after) from.written (sym a.handed))
      ∙ take-append_seam made.bytes after)

  -- Only a list that is split has number 0.
  pub next-listed : number ≡ 0 → is_some (split list) ≡ true
  next-listed z =
      maybe (split list)
      (λ q. absurd (omega (arith, z, x.numbered ∙ ap (λ (o : Option (List Request)). cond (is_some o) accepted broken_list) q)))
      (λ xs q. ap is_some q)

  -- Where bytes are left, at least one request is served.
  pub next-some : room_limit ≤ length answer → number ≡ 0 → from.at < length list → from.served < to.served
  next-some r z h = omega (arith, x.served, done-some list from.served room r (reached-more a (next-listed z) h))

  pub next-stop : room ≡ piece_room → (k : ℕ) × (from.served ≡ served_after list k) → (k : ℕ) × (to.served ≡ served_after list k)
  unfolding served_after
  next-stop r b = (
    suc b.0,
    x.served ∙ ap (λ (k : ℕ). from.served + (next_of list from.served k).served) r
        ∙ ap (λ (k : ℕ). k + (next_of list k piece_room).served) b.1,
  )

-- ---- no list is stuck

after-few : (list : List ℕ) (k : ℕ) → served_after list k ≤ length (requests_of list)
unfolding served_after
after-few list zero = omega arith
after-few list (suc k) = omega (arith, after-few list k, done-few list (served_after list k) piece_room)

after-many : (list : List ℕ) (k : ℕ) → k ≤ length (requests_of list) → k ≤ served_after list k
unfolding served_after
after-many list zero h = omega arith
after-many list (suc k) h =
    let before : k ≤ served_after list k = after-many list k (omega arith) in
    cases (ltb (served_after list k) (length (requests_of list)))
    (λ q. omega (arith, done-some list (served_after list k) piece_room (lit≤ tt) (ltb-true (served_after list k) (length (requests_of list)) q)))
    (λ q. omega (arith, ltb-false (served_after list k) (length (requests_of list)) q))

-- With as many pieces as there are requests, all are served.
pub after-all : (list : List ℕ) → served_after list (length (requests_of list)) ≡ length (requests_of list)
after-all list = omega (arith, after-few list (length (requests_of list)), after-many list (length (requests_of list)) (omega arith))

-- ---- the end

pub stop-start : (list : List ℕ) → (k : ℕ) × (0 ≡ served_after list k)
unfolding served_after
stop-start list = (0, refl)

module _ {list : List ℕ} {m : Lent} {p : Progress} (a : Reached list m p) (stopped : (k : ℕ) × (p.served ≡ served_after list k)) where
  finished : (number : ℕ) (failed : Bool) → number ≡ cond (is_some (split list)) accepted broken_list
      → (failed ≡ false → p.served ≡ length (requests_of list)) → (failed ≡ true → 0 < p.served)
      → Finished list m number p.served p.written failed
  finished number failed n e b = record {
    told = record { numbered = n; counted = a.counted; stopped = stopped; handed = a.handed; ended = e; begun = b };
    left = a.left;
  }

  -- A refused list has no requests.
  pub end_refused : (number : ℕ) → number ≡ cond (is_some (split list)) accepted broken_list → (number ≡ 0 → ⊥) → Finished list m number p.served p.written false
  end_refused number n other =
      maybe (split list)
      (λ q.
      let none-there : length (requests_of list) ≡ 0 = ap (λ (x : Option (List Request)). length (get_or x [])) q in
      finished number false n (λ _. omega (arith, a.counted, none-there)) (λ h. absurd (true≢false (sym h))))
      (λ xs q. absurd (other (n ∙ ap (λ (o : Option (List Request)). cond (is_some o) accepted broken_list) q)))

  pub end-failed : is_some (split list) ≡ true → 0 < p.served → Finished list m 0 p.served p.written true
  end-failed l h = finished 0 true (ap (λ (b : Bool). cond b accepted broken_list) (sym l)) (λ e. absurd (true≢false e)) (λ _. h)

  nothing_left : split [] ≡ some []
  unfolding split
  nothing_left = refl

  pub end-all : length list ≤ p.at → Finished list m 0 p.served p.written false
  end-all h =
      let e : some [] ≡ map (λ (ys : List Request). drop p.served ys) (split list) =
      sym nothing_left ∙ ap split (sym (drop_of_length-le list h)) ∙ (reached-others a).1 in
      maybe (split list)
      (λ q. absurd (true≢false (ap is_some e ∙ ap (λ (x : Option (List Request)). is_some (map (λ (ys : List Request). drop p.served ys) x)) q)))
      (λ xs q.
      let l : 0 ≡ length (drop p.served xs) =
      ap (λ (x : Option (List Request)). length (get_or x [])) (e ∙ ap (map (λ (ys : List Request). drop p.served ys)) q) in
      let all : length (requests_of list) ≡ length xs = ap (λ (x : Option (List Request)). length (get_or x [])) q in
      finished 0 false (ap (λ (o : Option (List Request)). cond (is_some o) accepted broken_list) (sym q))
      (λ _. omega (arith, l, all, length-drop p.served xs, a.counted)) (λ f. absurd (true≢false (sym f))))

-- ---- the whole

-- Unless writing failed, as many bytes were handed on as the answers have.
pub told-whole : {list : List ℕ} {number served written : ℕ} → Told list number served written false → written ≡ length (answers_of list)
unfolding served_first answers_of
told-whole {list} {number} {served} t =
    t.handed ∙ ap (λ (xs : List Request). length (serve_each new_one xs).bytes) (take_all served (requests_of list) (omega (arith, t.ended refl)))

-- One run of a list with room for every reply gives the same answers in one piece, and leaves the same memory.
pub one-run : (list answer : List ℕ) → Bytes list → (xs : List Request) → split list ≡ some xs → room_limit * length xs ≤ length answer → room_limit ≤ length answer
    → run (lent_of new_one) list answer ≡ accepted_run (serve_each new_one xs) answer
one-run list answer b xs q h room =
    run-served new_one sound-one whole-one list answer room xs q
    ∙ ap (λ (x : ServedAll). accepted_run x answer) (enough (length answer) new_one xs sound-one (split-bytes list xs b q) h)
