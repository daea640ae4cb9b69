-- A list by its elements, and rows written one after the other.
use Prim.Native.Nat.{ℕ, zero, suc, ◌*◌, ◌<◌}
use mathlib.Core.Path.{◌≡◌, refl, ap, sym, ◌∙◌, subst}
use mathlib.Core.List.{List, [], ◌∷◌, ◌++◌}
use native.Mathlib.Omega.{arith}
use lib.ListN.{length, get_or, set, take, drop, length-map}
use Rattle.ldc.specs.Layout.{row_size}
use Rattle.store_cards.specs.Card.{words_of, rows_of, no_card}
use Rattle.store_cards.specs.declared.Card.{Card}

-- The bytes of a card: each of its words has eight.
abbrev pub card_size : ℕ
card_size = 8 * row_size

-- The n elements of a list from the i-th on.
abbrev pub elements : {X : Type 0} → X → (n i : ℕ) → List X → List X
elements d zero i xs = []
elements d (suc n) i xs = get_or xs i d ∷ elements d n (suc i) xs

elements-next : {X : Type 0} (d x : X) (n i : ℕ) (xs : List X) → elements d n (suc i) (x ∷ xs) ≡ elements d n i xs
elements-next d x zero i xs = refl
elements-next d x (suc n) i xs = ap (λ (ys : List _). get_or xs i d ∷ ys) (elements-next d x n (suc i) xs)

elements-length : {X : Type 0} (d : X) (xs : List X) → elements d (length xs) 0 xs ≡ xs
elements-length d [] = refl
elements-length d (x ∷ xs) = ap (λ (ys : List _). x ∷ ys) (elements-next d x (length xs) 0 xs ∙ elements-length d xs)

-- A list of n is its n elements.
pub elements-all : {X : Type 0} (d : X) (xs : List X) (n : ℕ) → length xs ≡ n → elements d n 0 xs ≡ xs
elements-all d xs n e = subst (λ (m : ℕ). elements d m 0 xs ≡ xs) e (elements-length d xs)

-- The first i of one list, the rest of another.
abbrev pub mixed : {X : Type 0} (i : ℕ) → List X → List X → List X
mixed i new old = take i new ++ drop i old

-- One more of the first is written.
pub mixed-more : {X : Type 0} (d : X) (new old : List X) (i : ℕ) → i < length new → i < length old
    → set (mixed i new old) i (get_or new i d) ≡ mixed (suc i) new old
mixed-more d [] old i l k = absurd (omega (arith, l))
mixed-more d (x ∷ new) [] i l k = absurd (omega (arith, k))
mixed-more d (x ∷ new) (y ∷ old) zero l k = refl
mixed-more d (x ∷ new) (y ∷ old) (suc i) l k = ap (λ (zs : List _). x ∷ zs) (mixed-more d new old i (omega (arith, l)) (omega (arith, k)))

-- All of it is written.
pub mixed-all : {X : Type 0} (new old : List X) → length new ≡ length old → mixed (length old) new old ≡ new
mixed-all [] [] e = refl
mixed-all [] (y ∷ old) e = absurd (omega (arith, e))
mixed-all (x ∷ new) [] e = absurd (omega (arith, e))
mixed-all (x ∷ new) (y ∷ old) e = ap (λ (zs : List _). x ∷ zs) (mixed-all new old (omega (arith, e)))

-- As many as there were.
pub mixed-length : {X : Type 0} (new old : List X) → length new ≡ length old → (i : ℕ) → length (mixed i new old) ≡ length old
mixed-length [] old e zero = refl
mixed-length (x ∷ new) old e zero = refl
mixed-length [] [] e (suc i) = refl
mixed-length [] (y ∷ old) e (suc i) = absurd (omega (arith, e))
mixed-length (x ∷ new) [] e (suc i) = absurd (omega (arith, e))
mixed-length (x ∷ new) (y ∷ old) e (suc i) = ap suc (mixed-length new old (omega (arith, e)) i)

-- ---- the rows of cards

-- As many as cards.
pub rows-length : (cards : List Card) → length (rows_of cards) ≡ length cards
unfolding rows_of
rows-length cards = length-map cards words_of

-- The row at a place is the words of the card there.
pub rows_at : (cards : List Card) (i : ℕ) → i < length cards → get_or (rows_of cards) i [] ≡ words_of (get_or cards i no_card)
unfolding rows_of
rows_at [] i l = absurd (omega (arith, l))
rows_at (c ∷ cards) zero l = refl
rows_at (c ∷ cards) (suc i) l = rows_at cards i (omega (arith, l))

-- One card is changed, and so is its row.
pub rows-set : (cards : List Card) (i : ℕ) (c : Card) → rows_of (set cards i c) ≡ set (rows_of cards) i (words_of c)
unfolding rows_of
rows-set [] i c = refl
rows-set (x ∷ cards) zero c = refl
rows-set (x ∷ cards) (suc i) c = ap (λ (rows : List (List ℕ)). words_of x ∷ rows) (rows-set cards i c)

-- A turn of `load`: the next row is written.
pub loaded : (cards : List Card) (old : List (List ℕ)) (i : ℕ) → length old ≡ length cards → i < length cards
    → set (mixed i (rows_of cards) old) i (words_of (get_or cards i no_card)) ≡ mixed (suc i) (rows_of cards) old
loaded cards old i e l =
    ap (λ (row : List ℕ). set (mixed i (rows_of cards) old) i row) (sym (rows_at cards i l))
    ∙ mixed-more [] (rows_of cards) old i (rw (rows-length cards) l) (rw e l)

-- A turn of `unload`: the next card is changed.
pub unloaded : (rows : List (List ℕ)) (cards₀ cards : List Card) (i : ℕ) (c : Card) → length rows ≡ length cards₀ → i < length rows
    → rows_of cards ≡ mixed i rows (rows_of cards₀) → words_of c ≡ get_or rows i [] → rows_of (set cards i c) ≡ mixed (suc i) rows (rows_of cards₀)
unloaded rows cards₀ cards i c e l so w =
    rows-set cards i c
    ∙ ((λ k. set (so k) i (w k))
    ∙ mixed-more [] rows (rows_of cards₀) i l (rw (rows-length cards₀) (omega (arith, e, l))))
