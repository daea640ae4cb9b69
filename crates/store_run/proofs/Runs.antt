-- A run by its ways out: refused early with 1, 3 or 4, refused with 5, or served. The definitions' cases compute once each test has its answer.
use Prim.Native.Nat.{ℕ, ◌≤◌, ◌<◌}
use mathlib.Core.Path.{◌≡◌, refl, sym, ◌∙◌, ap}
use mathlib.Core.Bool.{true, false, cond, true≢false}
use mathlib.Core.List.{List, []}
use mathlib.Core.Option.{Option, some, none, get_or}
use native.Mathlib.Omega.{arith}
use borrow.Author.Tests.{lt-ltb, le-ltb}
use lib.Dec.{eqb, ltb}
use lib.ListN.{length}
use Rattle.ldc.specs.Lists.{is_some, is_empty}
use Rattle.ldc.specs.Lent.{Lent, sizes_good, store_of, broken}
use Rattle.ldc.specs.Request.{Request}
use Rattle.ldc.specs.Run.{accepted, wrong_sizes, short_answer, broken_list, unsound, split, room_limit}
use Rattle.ldc.specs.Run.{Outcome, serve_all, refused_run, accepted_run, run_split, run, check}
use Rattle.ldc.proofs.Basics.Cases.{cases}
use Rattle.ldc.proofs.Basics.ListLaws.{empty-list}
use Rattle.serve_list.specs.Ran.{ran, requests_of}
use Rattle.store_run.specs.Early.{early_number}

split-none : (m : Lent) (o : Option (List Request)) (answer : List ℕ) → is_some o ≡ false → run_split m o answer ≡ refused_run broken_list m answer
split-none m none answer h = refl
split-none m (some rs) answer h = absurd (true≢false h)

split-unsound : (m : Lent) (o : Option (List Request)) (answer : List ℕ) → is_some o ≡ true → is_empty (broken m) ≡ false → run_split m o answer ≡ refused_run unsound m answer
split-unsound m none answer h b = absurd (true≢false (sym h))
split-unsound m (some rs) answer h b = rw b

split-served : (m : Lent) (o : Option (List Request)) (answer : List ℕ) → is_some o ≡ true → broken m ≡ []
    → run_split m o answer ≡ accepted_run (serve_all (length answer) (store_of m) (get_or o [])) answer
split-served m none answer h b = absurd (true≢false (sym h))
split-served m (some rs) answer h b = rw b

-- ---- the number by which a run is refused early

module _ (m : Lent) (room : ℕ) (list : List ℕ) where
  pub early-sizes : sizes_good m ≡ false → wrong_sizes ≡ early_number m room list
  unfolding early_number
  early-sizes z = rw z

  module _ (z : sizes_good m ≡ true) where
    pub early-short : room < room_limit → short_answer ≡ early_number m room list
    unfolding early_number
    early-short h = rw (z, lt-ltb room room_limit h)

    pub early-listed : room_limit ≤ room → cond (is_some (split list)) accepted broken_list ≡ early_number m room list
    unfolding early_number
    early-listed h = rw (z, le-ltb room room_limit h)

  -- It is not that of an unsound store.
  pub early-not-unsound : eqb (early_number m room list) unsound ≡ false
  unfolding early_number
  early-not-unsound =
      cases (sizes_good m)
      (λ z. cases (ltb room room_limit) (λ h. rw (z, h)) (λ h. cases (is_some (split list)) (λ q. rw (z, h, q)) (λ q. rw (z, h, q))))
      (λ z. rw z)

-- What holds where a run is not refused early.
pub record Passed (m : Lent) (list answer : List ℕ) : Type 0 where
  pub sizes : sizes_good m ≡ true
  pub room : ltb (length answer) room_limit ≡ false
  pub listed : is_some (split list) ≡ true

module _ (m : Lent) (list answer : List ℕ) where
  pub passed : early_number m (length answer) list ≡ accepted → Passed m list answer
  unfolding early_number
  passed e =
      cases (sizes_good m)
      (λ z. cases (ltb (length answer) room_limit) (λ h. let e' = rw (z, h) at e in absurd (omega arith))
      (λ h. cases (is_some (split list)) (λ q. record { sizes = z; room = h; listed = q }) (λ q. let e' = rw (z, h, q) at e in absurd (omega arith))))
      (λ z. let e' = rw z at e in absurd (omega arith))

  pub run-early : (early_number m (length answer) list ≡ accepted → ⊥) → run m list answer ≡ refused_run (early_number m (length answer) list) m answer
  unfolding run early_number
  run-early n =
      cases (sizes_good m)
      (λ z. cases (ltb (length answer) room_limit) (λ h. rw (z, h))
      (λ h. cases (is_some (split list)) (λ q. absurd (n (rw (z, h, q)))) (λ q. rw (z, h, q) (split-none m (split list) answer q))))
      (λ z. rw z)

  module _ (p : Passed m list answer) where
    pub run-unsound : is_empty (broken m) ≡ false → run m list answer ≡ refused_run unsound m answer
    unfolding run
    run-unsound b = rw (p.sizes, p.room) (split-unsound m (split list) answer p.listed b)

    pub run-served : broken m ≡ [] → run m list answer ≡ accepted_run (serve_all (length answer) (store_of m) (requests_of list)) answer
    unfolding run
    run-served b = rw (p.sizes, p.room) (split-served m (split list) answer p.listed b)

    -- A run that is refused all the same is refused by 5.
    pub run-late : ((run m list answer).number ≡ accepted → ⊥) → run m list answer ≡ refused_run unsound m answer
    run-late n =
        cases (is_empty (broken m)) (λ b. absurd (n (ap (λ (o : Outcome). o.number) (run-served (empty-list (broken m) b)))))
        (λ b. run-unsound b)

-- A refused run returns and leaves this.
pub refused-ran : (m : Lent) (list answer : List ℕ) (number n served written : ℕ) → n ≡ number → served ≡ 0 → written ≡ 0
    → run m list answer ≡ refused_run number m answer → ran n served written m answer ≡ run m list answer
refused-ran m list answer number n served written en es ew e =
    ap (λ (x : ℕ). ran x served written m answer) en ∙ ap (λ (x : ℕ). ran number x written m answer) es ∙ ap (λ (x : ℕ). ran number 0 x m answer) ew ∙ sym e

-- ---- what a check says, where the sizes are good

module _ (m : Lent) (z : sizes_good m ≡ true) (number : ℕ) (e : number ≡ check m) where
  pub check_sound : number ≡ 0 → broken m ≡ []
  unfolding check
  check_sound n =
      cases (is_empty (broken m)) (λ q. empty-list (broken m) q)
      (λ q. let e' = rw (z, q) at e in absurd (omega arith))

  pub check-unsound : (number ≡ 0 → ⊥) → is_empty (broken m) ≡ false
  unfolding check
  check-unsound n =
      cases (is_empty (broken m)) (λ q. let e' = rw (z, q) at e in absurd (n e'))
      (λ q. q)

  pub check-five : (number ≡ 0 → ⊥) → number ≡ 5
  unfolding check
  check-five n = e ∙ rw (z, check-unsound n)
