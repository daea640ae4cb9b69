-- What hangs after a link, in two sorts: the links that hung before, as they were, and those to the chosen table, which none named before.
use Prim.Native.Nat.{ℕ}
use mathlib.Core.Path.{◌≡◌, refl, ◌∙◌, ap, ap₂}
use mathlib.Core.List.{List, [], ◌∷◌, ◌++◌, map, append-nil, Memᴰ}
use mathlib.Core.Bool.{Bool, true, false, not}
use borrow.Author.Tests.{eq-eqb, ne_eqb}
use lib.Dec.{eqb}
use Rattle.ldc.specs.Lists.{keep}
use Rattle.ldc.specs.Store.{Link, Store, links}
use Rattle.ldc.specs.Rules.{Hung}
use Rattle.ldc.proofs.Steps.Apart.{keep_append, new_in}
use Rattle.ldc.proofs.Stores.Frame.{hung_in}

module _ {A : Type 0} where
  pub keep-none : (t : A → Bool) (xs : List A) → ((x : A) → Memᴰ x xs → t x ≡ false) → keep t xs ≡ []
  keep-none t [] h = refl
  keep-none t (x ∷ xs) h = rw (h x (Memᴰ.head refl)) (keep-none t xs (λ y m. h y (Memᴰ.tail m)))

  pub keep_all : (t : A → Bool) (xs : List A) → ((x : A) → Memᴰ x xs → t x ≡ true) → keep t xs ≡ xs
  keep_all t [] h = refl
  keep_all t (x ∷ xs) h = rw (h x (Memᴰ.head refl)) (ap (λ (ys : List A). x ∷ ys) (keep_all t xs (λ y m. h y (Memᴰ.tail m))))

-- A link on a level, and whether it names a place.
abbrev pub on_level : ℕ → Link → Hung
on_level i l = record { on = i; link = l }

abbrev pub names : ℕ → Hung → Bool
names p h = eqb h.link.place p

map-append : (i : ℕ) (xs ys : List Link) → map (on_level i) (xs ++ ys) ≡ map (on_level i) xs ++ map (on_level i) ys
map-append i [] ys = refl
map-append i (x ∷ xs) ys = ap (λ (hs : List Hung). on_level i x ∷ hs) (map-append i xs ys)

-- All of some links name a place, or none does.
all-name : (p i : ℕ) (ls : List Link) → ((l : Link) → Memᴰ l ls → l.place ≡ p)
    → (keep (names p) (map (on_level i) ls) ≡ map (on_level i) ls) × (keep (λ h. not (names p h)) (map (on_level i) ls) ≡ [])
all-name p i [] h = (refl, refl)
all-name p i (l ∷ ls) h =
    let r = all-name p i ls (λ x m. h x (Memᴰ.tail m)) in
    rw (eq-eqb l.place p (h l (Memᴰ.head refl))) (ap (λ (hs : List Hung). on_level i l ∷ hs) r.0, r.1)

none-name : (p i : ℕ) (ls : List Link) → ((l : Link) → Memᴰ l ls → l.place ≡ p → ⊥)
    → (keep (names p) (map (on_level i) ls) ≡ []) × (keep (λ h. not (names p h)) (map (on_level i) ls) ≡ map (on_level i) ls)
none-name p i [] h = (refl, refl)
none-name p i (l ∷ ls) h =
    let r = none-name p i ls (λ x m. h x (Memᴰ.tail m)) in
    rw (ne_eqb l.place p (h l (Memᴰ.head refl))) (r.0, ap (λ (hs : List Hung). on_level i l ∷ hs) r.1)

module _ (s s' : Store) (p : ℕ) (gain : ℕ → List Link)
    (all-links : (q : ℕ) → links s' q ≡ links s q ++ gain q)
    (old : (q : ℕ) (l : Link) → Memᴰ l (links s q) → l.place ≡ p → ⊥)
    (new : (q : ℕ) (l : Link) → Memᴰ l (gain q) → l.place ≡ p) where
  -- the links to the chosen table
  pub keep-new : (i : ℕ) (qs : List ℕ) → keep (names p) (hung_in s' i qs) ≡ new_in i gain qs
  keep-new i [] = refl
  keep-new i (q ∷ qs) =
      keep_append (names p) (map (on_level i) (links s' q)) (hung_in s' i qs)
      ∙ ap₂ (λ (xs ys : List Hung). xs ++ ys)
      (ap (λ (ls : List Link). keep (names p) (map (on_level i) ls)) (all-links q)
      ∙ ap (keep (names p)) (map-append i (links s q) (gain q))
      ∙ keep_append (names p) (map (on_level i) (links s q)) (map (on_level i) (gain q))
      ∙ ap₂ (λ (xs ys : List Hung). xs ++ ys) (none-name p i (links s q) (old q)).0 (all-name p i (gain q) (new q)).0)
      (keep-new i qs)

  -- and the others
  pub keep-old : (i : ℕ) (qs : List ℕ) → keep (λ h. not (names p h)) (hung_in s' i qs) ≡ hung_in s i qs
  keep-old i [] = refl
  keep-old i (q ∷ qs) =
      keep_append (λ h. not (names p h)) (map (on_level i) (links s' q)) (hung_in s' i qs)
      ∙ ap₂ (λ (xs ys : List Hung). xs ++ ys)
      (ap (λ (ls : List Link). keep (λ h. not (names p h)) (map (on_level i) ls)) (all-links q)
      ∙ ap (keep (λ h. not (names p h))) (map-append i (links s q) (gain q))
      ∙ keep_append (λ h. not (names p h)) (map (on_level i) (links s q)) (map (on_level i) (gain q))
      ∙ ap₂ (λ (xs ys : List Hung). xs ++ ys) (none-name p i (links s q) (old q)).1 (all-name p i (gain q) (new q)).1
      ∙ append-nil (map (on_level i) (links s q)))
      (keep-old i qs)

-- Where no table gains there are no new links.
pub new_in-none : (i : ℕ) (gain : ℕ → List Link) (qs : List ℕ) → ((q : ℕ) → Memᴰ q qs → gain q ≡ []) → new_in i gain qs ≡ []
new_in-none i gain [] h = refl
new_in-none i gain (q ∷ qs) h = rw (h q (Memᴰ.head refl)) (new_in-none i gain qs (λ x m. h x (Memᴰ.tail m)))
