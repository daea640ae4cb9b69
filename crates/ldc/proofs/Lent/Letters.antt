-- The first broken rule: no broken rule comes before it in the order A to G, it is 0 exactly where none is broken, and how E, F and G are
-- read where an earlier rule is broken does not show. For the first two, letters rise: rule after rule from the last, each letter is not above
-- those that follow. The third goes by cases.
use Prim.Native.Nat.{ℕ, suc}
use mathlib.Core.Path.{◌≡◌, refl}
use mathlib.Core.Bool.{Bool, true, false, not, ◌&&◌, ◌||◌}
use mathlib.Core.List.{List, [], ◌∷◌, ◌++◌, append-nil}
use native.Mathlib.Omega.{arith}
use borrow.Author.Tests.{le-leb, leb-true}
use lib.Dec.{leb, eqb}
use lib.ListN.{get_or}
use Rattle.table.specs.Table.{is_memory}
use Rattle.table.proofs.Tests.{and_parts}
use Rattle.ldc.specs.Lists.{all, is_empty}
use Rattle.ldc.specs.Rules.{rule_a, rule_e, rule_f, rule_g}
use Rattle.ldc.specs.Lent.{Lent, store_of, counts_good, unused_zero, kept_b, kept_c, presupposed, kept_e, kept_f, kept_g, letter, broken, first_broken, letter_a, letter_b, letter_c, letter_d, letter_e, letter_f, letter_g}
use Rattle.ldc.specs.Run.{letter_of}

-- ---- letters rise

above : (l : ℕ) (ls : List ℕ) → all (leb (suc l)) ls ≡ true → all (leb l) ls ≡ true
above l [] h = refl
above l (x ∷ xs) h =
    let p = and_parts (leb (suc l) x) (all (leb (suc l)) xs) h in
    rw (le-leb l x (omega (leb-true (suc l) x p.0, arith))) (above l xs p.1)

-- Letters none of which is below a number or below the first of them.
record Rising (l : ℕ) (ls : List ℕ) : Type 0 where
  not-below : all (leb l) ls ≡ true
  first-least : all (leb (get_or ls 0 0)) ls ≡ true

before : (kept : Bool) (l : ℕ) (rest : List ℕ) → Rising (suc l) rest → Rising l (letter kept l ++ rest)
before true l rest r = record { not-below = above l rest r.not-below; first-least = r.first-least }
before false l rest r =
    let z = le-leb l l (omega arith) in
    let w = above l rest r.not-below in
    record { not-below = rw z w; first-least = rw z w }

rising : (m : Lent) → Rising letter_a (broken m)
unfolding broken
rising m =
    let g = before (kept_g m) letter_g [] (record { not-below = refl; first-least = refl }) in
    let f = before (kept_f m) letter_f _ (rw append-nil at g) in
    let e = before (kept_e m) letter_e _ f in
    let d = before (is_memory m.memory) letter_d _ e in
    let c = before (kept_c m) letter_c _ d in
    before (rule_a (store_of m)) letter_a _ (before (kept_b m) letter_b _ c)

-- ---- the first: none comes before it, and it is 0 exactly where none is broken

pub first-is-least : (m : Lent) → all (leb (first_broken m)) (broken m) ≡ true
unfolding first_broken
first-is-least m = (rising m).first-least

no-letter : (ls : List ℕ) → all (leb letter_a) ls ≡ true → get_or ls 0 0 ≡ 0 → is_empty ls ≡ true
no-letter [] a h = refl
no-letter (l ∷ ls) a h =
    let p = and_parts (leb letter_a l) (all (leb letter_a) ls) a in
    absurd (omega (leb-true letter_a l p.0, h, arith))

pub first-none : (m : Lent) → first_broken m ≡ 0 → is_empty (broken m) ≡ true
unfolding first_broken
first-none m h = no-letter (broken m) (rising m).not-below h

some-letter : (ls : List ℕ) → (get_or ls 0 0 ≡ 0 → ⊥) → is_empty ls ≡ false
some-letter [] h = absurd (h refl)
some-letter (l ∷ ls) h = refl

pub first_some : (m : Lent) → (first_broken m ≡ 0 → ⊥) → is_empty (broken m) ≡ false
unfolding first_broken
first_some m h = some-letter (broken m) h

-- ---- what is left unsettled does not show (docs/DECISIONS.md, 7 and 8)

-- The first letter where rules A to G are kept or broken like this.
abbrev pub first_of : (a b c d e f g : Bool) → ℕ
first_of a b c d e f g =
    get_or (letter a letter_a ++ (letter b letter_b ++ (letter c letter_c ++ (letter d letter_d ++ (letter e letter_e ++ (letter f letter_f ++ letter g letter_g)))))) 0 0

settled : (a b c d e f g e' f' g' : Bool)
    → (b && c ≡ true → e' ≡ e) → (b && c ≡ true → e ≡ true → f' ≡ f) → (b && c ≡ true → e ≡ true → g' ≡ g)
    → first_of a b c d e' f' g' ≡ first_of a b c d (not (b && c) || e) (not (b && c) || f) (not (b && c) || g)
settled false b c d e f g e' f' g' he hf hg = refl
settled true false c d e f g e' f' g' he hf hg = refl
settled true true false d e f g e' f' g' he hf hg = refl
settled true true true false e f g e' f' g' he hf hg = refl
settled true true true true false f g e' f' g' he hf hg = rw (he refl) refl
settled true true true true true f g e' f' g' he hf hg = rw (he refl, hf refl refl, hg refl refl) refl

-- However E is read where B or C is broken, and F and G where B, C or E is, the first broken rule is the same.
pub first-settled : (m : Lent) (e f g : Bool)
    → (presupposed m ≡ true → e ≡ (counts_good m && rule_e (store_of m)))
    → (presupposed m ≡ true → (counts_good m && rule_e (store_of m)) ≡ true → f ≡ rule_f (store_of m))
    → (presupposed m ≡ true → (counts_good m && rule_e (store_of m)) ≡ true → g ≡ (unused_zero m && rule_g (store_of m)))
    → first_of (rule_a (store_of m)) (kept_b m) (kept_c m) (is_memory m.memory) e f g ≡ first_broken m
unfolding first_broken broken kept_e kept_f kept_g presupposed
first-settled m e f g he hf hg =
    settled (rule_a (store_of m)) (kept_b m) (kept_c m) (is_memory m.memory) (counts_good m && rule_e (store_of m)) (rule_f (store_of m))
    (unused_zero m && rule_g (store_of m)) e f g he hf hg

-- ---- the letter with a number

pub letter-5 : (m : Lent) (l : ℕ) → l ≡ first_broken m → l ≡ letter_of m 5
unfolding letter_of
letter-5 m l h = h

pub letter-none : (m : Lent) (number l : ℕ) → eqb number 5 ≡ false → l ≡ 0 → l ≡ letter_of m number
unfolding letter_of
letter-none m number l h e = rw h e
