-- Laws of the small functions on lists: tests of all, of any and of a run of numbers as facts about members and indices, how often a
-- number occurs, and lists laid end to end. Each goes by induction on the list or on the number of parts.
use Prim.Native.Nat.{ℕ, zero, suc, ◌+◌, ◌*◌, ◌-◌, ◌≤◌, ◌<◌}
use mathlib.Core.Path.{◌≡◌, refl, sym, ◌∙◌, ap}
use mathlib.Core.Bool.{Bool, true, false, not, ◌||◌, true≢false}
use mathlib.Core.List.Memᴰ
use mathlib.Core.List.{List, [], ◌∷◌, ◌++◌, map, Memᴰ}
use mathlib.Core.Logic.{⊎_elim}
use native.Mathlib.Omega.{arith}
use native.Mathlib.Nat.{suc-mul, zero-mul, add-zero, zero-add}
use borrow.Author.Tests.{eq-eqb, eqb-true, eqb-false}
use lib.Dec.{eqb}
use lib.ListN.{drop_of_length-le, length, get_or, take, drop, length-append, length-drop, take-append-drop}
use lib.Seq.{drop-cons, take_at, drop_at, drop-drop, take-nil, length-take-le}
use Rattle.table.proofs.Tests.{and_parts, cases}
use Rattle.ldc.proofs.Basics.Cases.{neither_left, neither_right}
use Rattle.ldc.specs.Lists.{all, any, keep, first, how_many, flat, is_empty, all_from}

-- ---- tests of all and of any

module _ {ℓ} {A : Type ℓ} where
  pub empty-list : (xs : List A) → is_empty xs ≡ true → xs ≡ []
  empty-list [] h = refl
  empty-list (x ∷ xs) h = absurd (true≢false (sym h))

  -- What all pass, each member passes.
  pub all-at : (test : A → Bool) (xs : List A) → all test xs ≡ true → {x : A} → Memᴰ x xs → test x ≡ true
  all-at test [] h x4 = elim x4 [ ]
  all-at test (y ∷ xs) h (Memᴰ.head e) = rw e (and_parts (test y) (all test xs) h).0
  all-at test (y ∷ xs) h (Memᴰ.tail m) = all-at test xs (and_parts (test y) (all test xs) h).1 m

  pub all_of : (test : A → Bool) (xs : List A) → ((x : A) → Memᴰ x xs → test x ≡ true) → all test xs ≡ true
  all_of test [] h = refl
  all_of test (x ∷ xs) h = rw (h x (Memᴰ.head refl)) (all_of test xs (λ y m. h y (Memᴰ.tail m)))

  -- If any passes, there is a member that does.
  pub any_at : (test : A → Bool) (xs : List A) → any test xs ≡ true → (x : A) × Memᴰ x xs × (test x ≡ true)
  any_at test [] h = absurd (true≢false (sym h))
  any_at test (x ∷ xs) h =
      cases (test x)
      (λ q. (x, Memᴰ.head refl, q))
      (λ q. let r = any_at test xs (rw q at h) in (r.0, Memᴰ.tail r.1, r.2))

  -- Tests that agree on a list's members agree on any.
  pub any_same : (t u : A → Bool) (xs : List A) → ((x : A) → Memᴰ x xs → t x ≡ u x) → any t xs ≡ any u xs
  any_same t u [] h = refl
  any_same t u (x ∷ xs) h = rw (h x (Memᴰ.head refl), any_same t u xs (λ y m. h y (Memᴰ.tail m)))

  pub any_append : (t : A → Bool) (xs ys : List A) → any t (xs ++ ys) ≡ (any t xs || any t ys)
  any_append t [] ys = refl
  any_append t (x ∷ xs) ys = cases (t x) (λ q. rw q) (λ q. rw q (any_append t xs ys))

  -- What none passes of several lists, none passes of one of them; and a member of all is one of one of them.
  pub none-part : (t : A → Bool) (xss : List (List A)) (j : ℕ) → any t (flat xss) ≡ false → any t (get_or xss j []) ≡ false
  none-part t [] j h = refl
  none-part t (xs ∷ xss) zero h = neither_left (any t xs) (any t (flat xss)) (sym (any_append t xs (flat xss)) ∙ h)
  none-part t (xs ∷ xss) (suc j) h = none-part t xss j (neither_right (any t xs) (any t (flat xss)) (sym (any_append t xs (flat xss)) ∙ h))

  pub part_of : (x : A) (xss : List (List A)) → Memᴰ x (flat xss) → (j : ℕ) × Memᴰ x (get_or xss j [])
  part_of x [] m = absurd (elim m [ ])
  part_of x (xs ∷ xss) m =
      ⊎_elim (λ h. (zero, h)) (λ h. let r = part_of x xss h in (suc r.0, r.1)) (Memᴰ.append_cases xs m)

  -- Members and indices.
  pub mem-get_or : (xs : List A) (i : ℕ) (d : A) → i < length xs → Memᴰ (get_or xs i d) xs
  mem-get_or [] i d h = absurd (omega arith)
  mem-get_or (x ∷ xs) zero d h = Memᴰ.head refl
  mem-get_or (x ∷ xs) (suc i) d h = Memᴰ.tail (mem-get_or xs i d (omega arith))

  pub get_or-mem : (xs : List A) (d : A) {x : A} → Memᴰ x xs → (i : ℕ) × (i < length xs) × (get_or xs i d ≡ x)
  get_or-mem [] d x3 = elim x3 [ ]
  get_or-mem (y ∷ xs) d (Memᴰ.head e) = (zero, omega arith, sym e)
  get_or-mem (y ∷ xs) d (Memᴰ.tail m) = let r = get_or-mem xs d m in (suc r.0, omega (arith, r.1), r.2)

  -- Tests that agree on a list find the same.
  pub first-same : (t u : A → Bool) (xs : List A) (d : A) → ((i : ℕ) → i < length xs → t (get_or xs i d) ≡ u (get_or xs i d)) → first t xs ≡ first u xs
  first-same t u [] d h = refl
  first-same t u (x ∷ xs) d h =
      let here : t x ≡ u x = h 0 (omega arith) in
      rw (here, first-same t u xs d (λ i k. h (suc i) (omega arith)))

  -- A list by its elements, n of them from an index on.
  abbrev pub spelled : (n from : ℕ) → A → List A → List A
  spelled zero i d xs = []
  spelled (suc n) i d xs = get_or xs i d ∷ spelled n (suc i) d xs

  spelled-drop : (n from : ℕ) (d : A) (xs : List A) → length xs ≡ from + n → drop from xs ≡ spelled n from d xs
  spelled-drop zero i d xs h = drop_of_length-le xs {i = i} (omega arith)
  spelled-drop (suc n) i d xs h = rw (drop-cons xs i d (omega arith), spelled-drop n (suc i) d xs (omega arith))

  pub spell : (n : ℕ) (d : A) (xs : List A) → length xs ≡ n → xs ≡ spelled n 0 d xs
  spell n d xs h = spelled-drop n 0 d xs (omega arith)

-- A test of what is made of all, by each of them.
pub all_map {ℓ κ} : {A : Type ℓ} {B : Type κ} (f : A → B) (test : B → Bool) (xs : List A) → ((x : A) → Memᴰ x xs → test (f x) ≡ true)
    → all test (map f xs) ≡ true
all_map f test [] h = refl
all_map f test (x ∷ xs) h = rw (h x (Memᴰ.head refl)) (all_map f test xs (λ y m. h y (Memᴰ.tail m)))

-- There and back over a list, where it is so at each member.
pub map_back {ℓ κ} : {A : Type ℓ} {B : Type κ} (f : A → B) (g : B → A) (xs : List A) → ((x : A) → Memᴰ x xs → g (f x) ≡ x)
    → map g (map f xs) ≡ xs
map_back f g [] h = refl
map_back f g (x ∷ xs) h = rw (h x (Memᴰ.head refl), map_back f g xs (λ y m. h y (Memᴰ.tail m)))

pub get_d_map {ℓ κ} : {A : Type ℓ} {B : Type κ} (f : A → B) (xs : List A) (i : ℕ) (d : A) (e : B) → i < length xs
    → get_or (map f xs) i e ≡ f (get_or xs i d)
get_d_map f [] i d e h = absurd (omega arith)
get_d_map f (x ∷ xs) zero d e h = refl
get_d_map f (x ∷ xs) (suc i) d e h = get_d_map f xs i d e (omega arith)

-- ---- runs of numbers

pub all_from_at : (n from : ℕ) (test : ℕ → Bool) → all_from n from test ≡ true → (i : ℕ) → i < n → test (from + i) ≡ true
all_from_at zero from test h i hi = absurd (omega arith)
all_from_at (suc n) from test h zero hi = rw (add-zero from) (and_parts (test from) (all_from n (suc from) test) h).0
all_from_at (suc n) from test h (suc i) hi =
    let e : from + suc i ≡ suc from + i = omega arith in
    rw e (all_from_at n (suc from) test (and_parts (test from) (all_from n (suc from) test) h).1 i (omega arith))

pub all_from-of : (n from : ℕ) (test : ℕ → Bool) → ((i : ℕ) → i < n → test (from + i) ≡ true) → all_from n from test ≡ true
all_from-of zero from test h = refl
all_from-of (suc n) from test h =
    let here : test from ≡ true = rw (add-zero from) at (h 0 (omega arith)) in
    rw here (all_from-of n (suc from) test
    (λ i hi. let e : suc from + i ≡ from + suc i = omega arith in rw e (h (suc i) (omega arith))))

-- From nought on.
pub below_at : (n : ℕ) (test : ℕ → Bool) → all_from n 0 test ≡ true → (i : ℕ) → i < n → test i ≡ true
below_at n test h i hi = rw (zero-add i) at (all_from_at n 0 test h i hi)

pub below_of : (n : ℕ) (test : ℕ → Bool) → ((i : ℕ) → i < n → test i ≡ true) → all_from n 0 test ≡ true
below_of n test h = all_from-of n 0 test (λ i hi. rw (zero-add i) (h i hi))

-- ---- how many pass

module _ {ℓ} {A : Type ℓ} where
  pub how_many-mem : (test : A → Bool) (xs : List A) {x : A} → Memᴰ x xs → test x ≡ true → 1 ≤ how_many test xs
  how_many-mem test [] x4 h = elim x4 [ ]
  how_many-mem test (y ∷ xs) (Memᴰ.head e) h = rw (rw e at h) (omega arith)
  how_many-mem test (y ∷ xs) (Memᴰ.tail m) h =
      let r = how_many-mem test xs m h in
      cases (test y) (λ q. rw q (omega arith)) (λ q. rw q r)

  pub how_many-zero : (test : A → Bool) (xs : List A) → ((x : A) → Memᴰ x xs → test x ≡ false) → how_many test xs ≡ 0
  how_many-zero test [] h = refl
  how_many-zero test (x ∷ xs) h = rw (h x (Memᴰ.head refl)) (how_many-zero test xs (λ y m. h y (Memᴰ.tail m)))

  -- Those that pass and those that don't are all; to leave some out makes none more; of those left out none is left.
  how_many-rest : (test : A → Bool) (xs : List A) → length xs ≡ how_many test xs + length (keep (λ x. not (test x)) xs)
  how_many-rest test [] = refl
  how_many-rest test (x ∷ xs) =
      let r = how_many-rest test xs in
      cases (test x) (λ q. rw q (omega arith)) (λ q. rw q (omega arith))

  how_many-keep : (test rest : A → Bool) (xs : List A) → how_many test (keep rest xs) ≤ how_many test xs
  how_many-keep test rest [] = omega arith
  how_many-keep test rest (x ∷ xs) =
      let r = how_many-keep test rest xs in
      cases (rest x)
      (λ q. cases (test x) (λ t. rw (q, t) (omega arith)) (λ t. rw (q, t) r))
      (λ q. cases (test x) (λ t. rw (q, t) (omega arith)) (λ t. rw (q, t) r))

  how_many-none : (test : A → Bool) (xs : List A) → how_many test (keep (λ x. not (test x)) xs) ≡ 0
  how_many-none test [] = refl
  how_many-none test (x ∷ xs) =
      let r = how_many-none test xs in
      cases (test x) (λ q. rw q r) (λ q. rw (q, q) r)

-- Numbers below n, none of them twice, are at most n.
pub at_most : (n : ℕ) (xs : List ℕ) → ((p : ℕ) → how_many (eqb p) xs ≤ 1) → ((p : ℕ) → n ≤ p → how_many (eqb p) xs ≡ 0)
    → length xs ≤ n
at_most zero [] once none = omega arith
at_most zero (x ∷ xs) once none =
    absurd (omega (arith, none x (omega arith), how_many-mem (eqb x) (x ∷ xs) (Memᴰ.head refl) (eq-eqb x x refl)))
at_most (suc n) xs once none =
    let ys : List ℕ = keep (λ x. not (eqb n x)) xs in
    let r : length ys ≤ n =
    at_most n ys (λ p. omega (arith, once p, how_many-keep (eqb p) (λ x. not (eqb n x)) xs))
    (λ p hp. cases (eqb n p)
    (λ q. rw (← eqb-true n p q) (how_many-none (eqb n) xs))
    (λ q. let above : suc n ≤ p = omega (arith, eqb-false n p q) in
    omega (arith, none p above, how_many-keep (eqb p) (λ x. not (eqb n x)) xs))) in
    omega (arith, how_many-rest (eqb n) xs, once n)

-- ---- lists end to end

module _ {ℓ} {A : Type ℓ} where
  -- The first n parts, of k elements each.
  abbrev pub parts : (k n : ℕ) → List A → List (List A)
  parts k zero s = []
  parts k (suc n) s = take k s ∷ parts k n (drop k s)

  -- Lists of k elements each.
  abbrev pub Each : ℕ → List (List A) → Type 0
  Each k xss = (i : ℕ) → i < length xss → length (get_or xss i []) ≡ k

  pub length-flat : (k : ℕ) (xss : List (List A)) → Each k xss → length (flat xss) ≡ length xss * k
  length-flat k [] h = rw (zero-mul k)
  length-flat k (xs ∷ xss) h =
      let here : length xs ≡ k = h 0 (omega arith) in
      let r : length (flat xss) ≡ length xss * k = length-flat k xss (λ i hi. h (suc i) (omega arith)) in
      rw (length-append, suc-mul) (omega arith)

  pub length-within : (xss : List (List A)) (i : ℕ) → length (get_or xss i []) ≤ length (flat xss)
  length-within [] i = omega arith
  length-within (xs ∷ xss) zero = rw length-append (omega arith)
  length-within (xs ∷ xss) (suc i) = let r = length-within xss i in rw length-append (omega arith)

  pub drop-take : (a n : ℕ) (s : List A) → drop a (take n s) ≡ take (n - a) (drop a s)
  drop-take zero n s = let e : n - 0 ≡ n = omega arith in rw e
  drop-take (suc a) zero s = let e : 0 - suc a ≡ 0 = omega arith in rw e
  drop-take (suc a) (suc n) [] = sym (take-nil (suc n - suc a))
  drop-take (suc a) (suc n) (x ∷ s) = let e : suc n - suc a ≡ n - a = omega arith in rw e (drop-take a n s)

  pub length-parts : (k n : ℕ) (s : List A) → length (parts k n s) ≡ n
  length-parts k zero s = refl
  length-parts k (suc n) s = ap suc (length-parts k n (drop k s))

  pub get_or-parts : (k n : ℕ) (s : List A) (i : ℕ) → i < n → get_or (parts k n s) i [] ≡ take k (drop (i * k) s)
  get_or-parts k zero s i h = absurd (omega arith)
  get_or-parts k (suc n) s zero h = rw (zero-mul k)
  get_or-parts k (suc n) s (suc i) h =
      let e : suc i * k ≡ k + i * k = rw suc-mul (omega arith) in
      rw (e, ← drop-drop) (get_or-parts k n (drop k s) i (omega arith))

  pub each_part : (k n : ℕ) (s : List A) → length s ≡ n * k → Each k (parts k n s)
  each_part k zero s h i hi = absurd (omega arith)
  each_part k (suc n) s h zero hi = length-take-le k s (omega (arith, suc-mul n k))
  each_part k (suc n) s h (suc i) hi =
      each_part k n (drop k s) (rw length-drop (omega (arith, suc-mul n k))) i (omega arith)

  pub flat-parts : (k n : ℕ) (s : List A) → length s ≡ n * k → flat (parts k n s) ≡ s
  flat-parts k zero [] h = refl
  flat-parts k zero (x ∷ s) h = absurd (omega (arith, zero-mul k))
  flat-parts k (suc n) s h =
      rw (flat-parts k n (drop k s) (rw length-drop (omega (arith, suc-mul n k)))) (take-append-drop k s)

  pub parts-flat : (k : ℕ) (xss : List (List A)) → Each k xss → parts k (length xss) (flat xss) ≡ xss
  parts-flat k [] h = refl
  parts-flat k (xs ∷ xss) h =
      let here : length xs ≡ k = h 0 (omega arith) in
      rw (take_at xs (flat xss) k here, drop_at xs (flat xss) k here, parts-flat k xss (λ i hi. h (suc i) (omega arith)))
