-- Each call over structs by its ways out: what it returns and leaves there is what the contract says.
--   early-other, early-same        the number by which a run is refused early
--   rows-accepted, rows-follow     what the working rows hold
--   make_same, run-same            with as many rows as cards, what is returned over rows
--   make-refused, make-accepted    of `make`, by what making a store in the rows returned and left
--   check-refused, check-judged    of `check`: refused for sizes, or judged
--   run-refused, run-unsound, run-served   of `run`: refused early; carried over, and then refused by 5 or served
--   ..-as-many                     what was not refused by 1 has as many rows as cards
use Prim.Native.Nat.{ℕ}
use mathlib.Core.Path.{◌≡◌, refl, sym, ◌∙◌, ap}
use mathlib.Core.Bool.{true, false, cond, ◌&&◌}
use mathlib.Core.List.{List}
use native.Mathlib.Omega.{arith}
use borrow.Author.Tests.{eqb-true, eqb-false, eq-eqb, ne_eqb}
use lib.Dec.{eqb}
use lib.ListN.{length}
use Rattle.ldc.specs.Lists.{is_empty}
use Rattle.ldc.specs.Rules.{threshold_good}
use Rattle.ldc.specs.Lent.{Lent, sizes_good, broken}
use Rattle.ldc.specs.Run.{accepted, wrong_sizes, unsound, Made, make, check, Outcome, refused_run, run, letter_of}
use Rattle.ldc.proofs.Basics.Cases.{cases, both_left, both_right, clash}
use Rattle.book.specs.Made.{made}
use Rattle.book.specs.Pieces.{lent}
use Rattle.book.proofs.Made.{sizes-by}
use Rattle.check_store.specs.Answer.{Answers}
use Rattle.serve_list.specs.Ran.{ran}
use Rattle.store_cards.specs.Card.{rows_of}
use Rattle.store_cards.specs.declared.Card.{Card}
use Rattle.store_cards.proofs.Words.{rows-length}
use Rattle.store_run.specs.Early.{early_number}
use Rattle.ldc.proofs.Lent.Letters.{letter-none}
use Rattle.store_run.proofs.Runs.{passed, early-not-unsound, run-early, run-late}
use Rattle.store_structs.specs.Over.{as_many, make_over, check_over, run_over, early_over, rows_after, Left}

-- Sizes are good by the lengths alone.
sizes-same : (m n : Lent) → length m.area ≡ length n.area → length m.cards ≡ length n.cards → length m.lists ≡ length n.lists
    → sizes_good m ≡ sizes_good n
sizes-same m n a c l = sym (sizes-by m _ _ _ a c l) ∙ sizes-by n _ _ _ refl refl refl

-- ---- the number by which a run is refused early

module _ (rows : List (List ℕ)) (m : Lent) (room : ℕ) (list : List ℕ) where
  pub early-other : (length rows ≡ length m.cards → ⊥) → wrong_sizes ≡ early_over rows m room list
  unfolding early_over
  early-other n = rw (ne_eqb (length rows) (length m.cards) n)

  pub early-same : length rows ≡ length m.cards → early_number m room list ≡ early_over rows m room list
  unfolding early_over
  early-same e = rw (eq-eqb (length rows) (length m.cards) e)

-- ---- what the working rows hold

module _ (number : ℕ) (rows : List (List ℕ)) (cards : List Card) where
  pub rows-accepted : number ≡ accepted → rows_of cards ≡ rows_after number rows cards
  unfolding rows_after
  rows-accepted e = rw e

  rows-unsound : number ≡ unsound → rows_of cards ≡ rows_after number rows cards
  unfolding rows_after
  rows-unsound e = rw e

  rows_stay : (number ≡ accepted → ⊥) → eqb number unsound ≡ false → rows ≡ rows_after number rows cards
  unfolding rows_after
  rows_stay n u = rw (ne_eqb number accepted n, u)

-- What a call leaves of rows that were the cards' words: the words of the cards that it leaves.
pub rows-follow : (number : ℕ) (rows last_rows : List (List ℕ)) (cards last_cards : List Card) → Left number rows last_rows cards last_cards → rows ≡ rows_of cards → last_rows ≡ rows_of last_cards
rows-follow number rows last_rows cards last_cards l e =
    cases (eqb number accepted) (λ a. l.rows_are ∙ sym (rows-accepted number rows last_cards (eqb-true number accepted a)))
    (λ a. let n = eqb-false number accepted a in
    cases (eqb number unsound) (λ u. l.rows_are ∙ sym (rows-unsound number rows last_cards (eqb-true number unsound u)))
    (λ u. l.rows_are ∙ sym (rows_stay number rows last_cards n u) ∙ e ∙ ap rows_of (sym (l.cards-stay n))))

-- ---- as many rows as cards

module _ (rows : List (List ℕ)) (m : Lent) where
  pub make_same : (t : ℕ) → length rows ≡ length m.cards → make m t ≡ make_over rows m t
  unfolding make_over
  make_same t e = rw (eq-eqb (length rows) (length m.cards) e)

  pub run-same : (list answer : List ℕ) → length rows ≡ length m.cards → run m list answer ≡ run_over rows m list answer
  unfolding run_over
  run-same list answer e = rw (eq-eqb (length rows) (length m.cards) e)

-- ---- make

-- The area, the rows, the cards, what else is lent, and the threshold.
module _ (A : List ℕ) (rows : List (List ℕ)) (cards : List Card) (I H M : List ℕ) (t : ℕ) where
  -- What making a store in the rows gives.
  abbrev in_rows : Made
  in_rows = cond (eqb (length rows) (length cards)) (make (lent A rows I H M) t) (made wrong_sizes (lent A rows I H M))

  abbrev over : Made
  over = make_over rows (lent A (rows_of cards) I H M) t

  sizes-too : length rows ≡ length cards → sizes_good (lent A rows I H M) ≡ sizes_good (lent A (rows_of cards) I H M)
  sizes-too e = sizes-same (lent A rows I H M) (lent A (rows_of cards) I H M) refl (e ∙ sym (rows-length cards)) refl

  -- Refused, both leave what was lent.
  refused : (in_rows.number ≡ accepted → ⊥)
      → (in_rows ≡ made in_rows.number (lent A rows I H M)) × ((made in_rows.number (lent A (rows_of cards) I H M) ≡ over) × (eqb in_rows.number unsound ≡ false))
  unfolding make make_over
  refused n =
      cases (eqb (length rows) (length cards))
      (λ e. let e' : eqb (length rows) (length (rows_of cards)) ≡ true = rw (rows-length cards) e in
      let s = sizes-too (eqb-true (length rows) (length cards) e) in
      cases (sizes_good (lent A (rows_of cards) I H M))
      (λ z. cases (threshold_good t) (λ h. absurd (n (rw (e, s, z, h)))) (λ h. rw (e, e', s, z, h) (refl, (refl, refl))))
      (λ z. rw (e, e', s, z) (refl, (refl, refl))))
      (λ e. let e' : eqb (length rows) (length (rows_of cards)) ≡ false = rw (rows-length cards) e in rw (e, e') (refl, (refl, refl)))

  -- Accepted, both leave the new store.
  accepted-too : in_rows.number ≡ accepted → (length rows ≡ length cards) × (in_rows ≡ over)
  unfolding make make_over
  accepted-too n =
      cases (eqb (length rows) (length cards))
      (λ e. let e' : eqb (length rows) (length (rows_of cards)) ≡ true = rw (rows-length cards) e in
      let same = eqb-true (length rows) (length cards) e in
      let s = sizes-too same in
      cases (sizes_good (lent A (rows_of cards) I H M))
      (λ z. cases (threshold_good t) (λ h. (same, rw (e, e', s, z, h))) (λ h. let n' = rw (e, s, z, h) at n in absurd (omega arith)))
      (λ z. let n' = rw (e, s, z) at n in absurd (omega arith)))
      (λ e. let n' = rw e at n in absurd (omega arith))

  module _ (number : ℕ) (A' : List ℕ) (rows' : List (List ℕ)) (I' H' M' : List ℕ) (said : made number (lent A' rows' I' H' M') ≡ in_rows) where
    number_is : number ≡ in_rows.number
    number_is = ap (λ (o : Made). o.number) said

    pub make-refused : (number ≡ accepted → ⊥) → (made number (lent A' (rows_of cards) I' H' M') ≡ over) × Left number rows rows' cards cards
    make-refused n =
        let f = refused (λ e. n (number_is ∙ e)) in
        let all : made number (lent A' rows' I' H' M') ≡ made in_rows.number (lent A rows I H M) = said ∙ f.0 in (
          (λ i. made (number_is i) (lent (all i).lent.area (rows_of cards) (all i).lent.lists (all i).lent.head (all i).lent.memory)) ∙ f.1.0,
          record {
            rows_are = ap (λ (o : Made). o.lent.cards) all ∙ rows_stay number rows cards n (ap (λ (k : ℕ). eqb k unsound) number_is ∙ f.1.1);
            cards-stay = λ _. refl;
          },
        )

    pub make-as-many : number ≡ accepted → length rows ≡ length cards
    make-as-many n = (accepted-too (sym number_is ∙ n)).0

    pub make-accepted : number ≡ accepted → (cards' : List Card) → rows_of cards' ≡ rows'
        → (made number (lent A' (rows_of cards') I' H' M') ≡ over) × Left number rows rows' cards cards'
    make-accepted n cards' e = (
      ap (λ (l : List (List ℕ)). made number (lent A' l I' H' M')) e ∙ said ∙ (accepted-too (sym number_is ∙ n)).1,
      record { rows_are = sym e ∙ rows-accepted number rows cards' n; cards-stay = λ r. absurd (r n) },
    )

-- ---- check

module _ (rows : List (List ℕ)) (cards : List Card) (m : Lent) where
  pub check-refused : as_many rows m && sizes_good m ≡ false → (wrong_sizes ≡ check_over rows m) × ((0 ≡ letter_of m wrong_sizes) × (rows ≡ rows_after wrong_sizes rows cards))
  unfolding check_over check
  check-refused n = (
    cases (as_many rows m) (λ e. cases (sizes_good m) (λ z. clash (rw (e, z)) n) (λ z. rw (e, z))) (λ e. rw e),
    (letter-none m wrong_sizes 0 refl refl, rows_stay wrong_sizes rows cards (λ e. absurd (omega arith)) refl),
  )

  module _ (fit : as_many rows m && sizes_good m ≡ true) where
    pub check-as-many : length rows ≡ length m.cards
    check-as-many = eqb-true (length rows) (length m.cards) (both_left (as_many rows m) (sizes_good m) fit)

    judged : (number : ℕ) → number ≡ check m → rows_of cards ≡ rows_after number rows cards
    unfolding check
    judged number e =
        let z = both_right (as_many rows m) (sizes_good m) fit in
        cases (is_empty (broken m)) (λ b. rows-accepted number rows cards (e ∙ rw (z, b))) (λ b. rows-unsound number rows cards (e ∙ rw (z, b)))

    pub check-judged : (number letter : ℕ) → Answers m number letter → (rows' : List (List ℕ)) → rows' ≡ rows_of cards
        → (number ≡ check_over rows m) × ((letter ≡ letter_of m number) × (rows' ≡ rows_after number rows cards))
    unfolding check_over
    check-judged number letter a rows' e = (
      a.number_is ∙ rw (both_left (as_many rows m) (sizes_good m) fit),
      (a.letter-is, e ∙ judged number a.number_is),
    )

-- ---- run

-- The area, the rows, the cards, what else is lent, the list, the answer, and the number that was found before anything was carried over.
module _ (A : List ℕ) (rows : List (List ℕ)) (cards : List Card) (I H M list answer : List ℕ) (early : ℕ)
    (found : early ≡ early_over rows (lent A (rows_of cards) I H M) (length answer) list) where
  abbrev m : Lent
  m = lent A (rows_of cards) I H M

  run-other : (length rows ≡ length m.cards → ⊥) → refused_run wrong_sizes m answer ≡ run_over rows m list answer
  unfolding run_over
  run-other n = rw (ne_eqb (length rows) (length m.cards) n)

  pub run-refused : (early ≡ accepted → ⊥)
      → (ran early 0 0 m answer ≡ run_over rows m list answer) × ((0 ≡ letter_of m early) × Left early rows rows cards cards)
  run-refused n =
      cases (as_many rows m)
      (λ e. let same = eqb-true (length rows) (length m.cards) e in
      let k = found ∙ sym (early-same rows m (length answer) list same) in
      let u : eqb early unsound ≡ false = ap (λ (x : ℕ). eqb x unsound) k ∙ early-not-unsound m (length answer) list in (
        ap (λ (x : ℕ). refused_run x m answer) k ∙ sym (run-early m list answer (λ z. n (k ∙ z))) ∙ run-same rows m list answer same,
        (letter-none m early 0 u refl, record { rows_are = rows_stay early rows cards n u; cards-stay = λ _. refl }),
      ))
      (λ e. let other = eqb-false (length rows) (length m.cards) e in
      let k = found ∙ sym (early-other rows m (length answer) list other) in
      let u : eqb early unsound ≡ false = ap (λ (x : ℕ). eqb x unsound) k in (
        ap (λ (x : ℕ). refused_run x m answer) k ∙ run-other other,
        (letter-none m early 0 u refl, record { rows_are = rows_stay early rows cards n u; cards-stay = λ _. refl }),
      ))

  module _ (none : early ≡ accepted) where
    same-many : length rows ≡ length m.cards
    same-many =
        cases (as_many rows m) (λ e. eqb-true (length rows) (length m.cards) e)
        (λ e. let k = sym none ∙ found ∙ sym (early-other rows m (length answer) list (eqb-false (length rows) (length m.cards) e)) in absurd (omega arith))

    pub run-as-many : length rows ≡ length cards
    run-as-many = same-many ∙ rows-length cards

    module _ (number served written : ℕ) (A' : List ℕ) (rows' : List (List ℕ)) (I' H' M' answer' : List ℕ) (letter : ℕ)
        (said : ran number served written (lent A' rows' I' H' M') answer' ≡ run m list answer) (told : letter ≡ letter_of m number) where
      pub run-unsound : (number ≡ accepted → ⊥)
          → (ran number served written (lent A' (rows_of cards) I' H' M') answer' ≡ run_over rows m list answer) × ((letter ≡ letter_of m number) × Left number rows rows' cards cards)
      run-unsound n =
          let p = passed m list answer (early-same rows m (length answer) list same-many ∙ sym found ∙ none) in
          let late = said ∙ run-late m list answer p (λ e. n (ap (λ (o : Outcome). o.number) said ∙ e)) in
          let back : rows' ≡ rows_of cards = ap (λ (o : Outcome). o.lent.cards) late in (
            ap (λ (l : List (List ℕ)). ran number served written (lent A' l I' H' M') answer') (sym back) ∙ said ∙ run-same rows m list answer same-many,
            (told, record { rows_are = back ∙ rows-unsound number rows cards (ap (λ (o : Outcome). o.number) late); cards-stay = λ _. refl }),
          )

      pub run-served : number ≡ accepted → (cards' : List Card) → rows_of cards' ≡ rows'
          → (ran number served written (lent A' (rows_of cards') I' H' M') answer' ≡ run_over rows m list answer) × ((letter ≡ letter_of m number) × Left number rows rows' cards cards')
      run-served n cards' e = (
        ap (λ (l : List (List ℕ)). ran number served written (lent A' l I' H' M') answer') e ∙ said ∙ run-same rows m list answer same-many,
        (told, record { rows_are = sym e ∙ rows-accepted number rows cards' n; cards-stay = λ r. absurd (r n) }),
      )
