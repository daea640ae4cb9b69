-- Saving and opening over structs by their ways out: what is returned and left there is what the contract says.
--   save-refused, save-as-many, save-done    refused for sizes before anything is carried over; or what saving from the rows says
--   open-refused, open-as-many, open_done    by what opening beside the cards says: refused, the cards stay; else they are the rows opened
use Prim.Native.Nat.{ℕ}
use mathlib.Core.Path.{◌≡◌, refl, ◌∙◌, ap}
use mathlib.Core.Bool.{true, false, ◌&&◌}
use mathlib.Core.List.{List}
use native.Mathlib.Omega.{arith}
use borrow.Author.Tests.{eqb-true, eq-eqb, ne_eqb}
use lib.Dec.{eqb, ltb}
use lib.ListN.{length}
use Rattle.ldc.specs.Lists.{is_empty}
use Rattle.ldc.specs.Lent.{Lent, sizes_good, store_of, broken}
use Rattle.ldc.specs.Run.{accepted, wrong_sizes, letter_of}
use Rattle.ldc.proofs.Basics.Cases.{cases, both_left, both_right, clash}
use Rattle.ldc.proofs.Lent.Letters.{letter-none}
use Rattle.book.specs.Pieces.{lent}
use Rattle.saved_book.specs.Saved.{saved_bytes}
use Rattle.saved_book.specs.Opened.{opened_over}
use Rattle.saved_book.specs.Calls.{Saving, saving, save_book, Opening, opening, open_with, working_after}
use Rattle.store_cards.specs.Card.{rows_of}
use Rattle.store_cards.specs.declared.Card.{Card}
use Rattle.store_cards.proofs.Words.{rows-length}
use Rattle.store_save.specs.Left.{Beside, cards_left}
use Rattle.store_structs.specs.Over.{as_many}
use Rattle.store_save_structs.specs.Saved.{save_over, rows_saved}

-- ---- save

module _ (rows : List (List ℕ)) (cards : List Card) (m : Lent) (buffer : List ℕ) where
  -- What is said at exit.
  abbrev pub Saves : (number letter written : ℕ) → (left : List ℕ) → (rows' : List (List ℕ)) → Type 0
  Saves number letter written left rows' =
      (saving number written left ≡ save_over rows m buffer) × ((letter ≡ letter_of m number) × (rows' ≡ rows_saved number rows cards))

  pub save-refused : as_many rows m && sizes_good m ≡ false → Saves wrong_sizes 0 0 buffer rows
  unfolding save_over save_book rows_saved
  save-refused n = (
    cases (as_many rows m) (λ e. cases (sizes_good m) (λ z. clash (rw (e, z)) n) (λ z. rw (e, z))) (λ e. rw e),
    (letter-none m wrong_sizes 0 refl refl, refl),
  )

  module _ (fit : as_many rows m && sizes_good m ≡ true) where
    pub save-as-many : length rows ≡ length m.cards
    save-as-many = eqb-true (length rows) (length m.cards) (both_left (as_many rows m) (sizes_good m) fit)

    -- Where the sizes are good, it is not refused by 1.
    not-sizes : (number : ℕ) → number ≡ (save_book m buffer).number → eqb number wrong_sizes ≡ false
    unfolding save_book
    not-sizes number e =
        let z = both_right (as_many rows m) (sizes_good m) fit in
        ap (λ (k : ℕ). eqb k wrong_sizes) e
        ∙ cases (is_empty (broken m)) (λ b. cases (ltb (length buffer) (length (saved_bytes (store_of m)))) (λ h. rw (z, b, h)) (λ h. rw (z, b, h))) (λ b. rw (z, b))

    pub save-done : (number letter written : ℕ) (left : List ℕ) → saving number written left ≡ save_book m buffer → letter ≡ letter_of m number
        → (rows' : List (List ℕ)) → rows' ≡ rows_of cards → Saves number letter written left rows'
    unfolding save_over rows_saved
    save-done number letter written left said told rows' e = (
      said ∙ rw (both_left (as_many rows m) (sizes_good m) fit),
      (told, e ∙ rw (not-sizes number (ap (λ (o : Saving). o.number) said))),
    )

-- ---- open

-- The area, the saved bytes, the rows, the cards, and what else is lent.
module _ (A bytes : List ℕ) (rows : List (List ℕ)) (cards : List Card) (I H M : List ℕ) where
  abbrev m : Lent
  m = lent A (rows_of cards) I H M

  -- What is said at exit.
  abbrev pub Opens : (number letter : ℕ) → (cards' : List Card) → (rows' : List (List ℕ)) → (I' H' M' : List ℕ) → Type 0
  Opens number letter cards' rows' I' H' M' =
      (opening number (lent A (rows_of cards') I' H' M') ≡ open_with rows m bytes)
      × ((letter ≡ letter_of (opened_over A bytes) number)
      × ((rows' ≡ working_after number rows A bytes)
      × ((number ≡ accepted → ⊥) → cards' ≡ cards)))

  -- What opening beside the cards says and leaves.
  abbrev pub Says : (number letter : ℕ) → (rows' : List (List ℕ)) → (I' H' M' : List ℕ) → Type 0
  Says number letter rows' I' H' M' =
      Beside number (length cards) A bytes (record { working = rows; lists = I; head = H; memory = M }) (record { working = rows'; lists = I'; head = H'; memory = M' })
      × (letter ≡ letter_of (opened_over A bytes) number)

  module _ (number letter : ℕ) (rows' : List (List ℕ)) (I' H' M' : List ℕ) (says : Says number letter rows' I' H' M') where
    opens : opening number (lent A (cards_left number rows' (rows_of cards)) I' H' M') ≡ open_with rows m bytes
    opens = says.0.opens (rows_of cards) (rows-length cards)

    pub open-refused : (number ≡ accepted → ⊥) → Opens number letter cards rows' I' H' M'
    unfolding cards_left
    open-refused n = (
      (rw (ne_eqb number accepted n) at opens),
      (says.1, (says.0.rows, λ _. refl)),
    )

    pub open-as-many : number ≡ accepted → length rows ≡ length cards
    unfolding open_with
    open-as-many n =
        cases (as_many rows m) (λ e. eqb-true (length rows) (length m.cards) e ∙ rows-length cards)
        (λ e. let k : number ≡ (open_with rows m bytes).number = ap (λ (o : Opening). o.number) opens in
        let k' = rw e at k in absurd (omega arith))

    pub open_done : number ≡ accepted → (cards' : List Card) → rows_of cards' ≡ rows' → Opens number letter cards' rows' I' H' M'
    unfolding cards_left
    open_done n cards' e = (
      ap (λ (l : List (List ℕ)). opening number (lent A l I' H' M')) e ∙ (rw (eq-eqb number accepted n) at opens),
      (says.1, (says.0.rows, λ r. absurd (r n))),
    )
