-- Links that name one place share no key: kept when links are taken away, and when links to a place that none named are added
-- whose ranges rise.
use Prim.Native.Nat.{ℕ, suc, ◌≤◌}
use mathlib.Core.Path.{◌≡◌, refl, sym, ◌∙◌, ap}
use mathlib.Core.List.{List, [], ◌∷◌, ◌++◌, map}
use mathlib.Core.Bool.{Bool, true, false, not, ◌&&◌, ◌||◌}
use native.Mathlib.Omega.{arith}
use borrow.Author.Tests.{eqb-true, leb-true, eq-eqb, ne_eqb, le-leb, lt-ltb}
use lib.Dec.{leb, ltb, eqb}
use Rattle.table.specs.Entry.{Entry}
use Rattle.ldc.specs.Lists.{all, keep, flat, is_empty}
use Rattle.ldc.specs.Store.{Link, Store, within, span_end}
use Rattle.ldc.specs.Rules.{Hung, apart, all_apart}
use Rattle.ldc.specs.Tidy.{greatest}
use Rattle.ldc.proofs.Basics.Cases.{cases, clash, both, both_left, both_right, either_left, either-right}
use Rattle.ldc.proofs.Steps.Ranges.{new_link, Assigned}
use Rattle.ldc.specs.Facts.{Spans}

module _ {A : Type 0} where
  pub all-append-left : (t : A → Bool) (xs ys : List A) → all t (xs ++ ys) ≡ true → all t xs ≡ true
  all-append-left t [] ys h = refl
  all-append-left t (x ∷ xs) ys h = both (t x) (all t xs) (both_left (t x) (all t (xs ++ ys)) h) (all-append-left t xs ys (both_right (t x) (all t (xs ++ ys)) h))

  pub all-append-right : (t : A → Bool) (xs ys : List A) → all t (xs ++ ys) ≡ true → all t ys ≡ true
  all-append-right t [] ys h = h
  all-append-right t (x ∷ xs) ys h = all-append-right t xs ys (both_right (t x) (all t (xs ++ ys)) h)

  pub all_append : (t : A → Bool) (xs ys : List A) → all t xs ≡ true → all t ys ≡ true → all t (xs ++ ys) ≡ true
  all_append t [] ys hx hy = hy
  all_append t (x ∷ xs) ys hx hy = both (t x) (all t (xs ++ ys)) (both_left (t x) (all t xs) hx) (all_append t xs ys (both_right (t x) (all t xs) hx) hy)

  pub all-mono : (t u : A → Bool) (xs : List A) → ((x : A) → t x ≡ true → u x ≡ true) → all t xs ≡ true → all u xs ≡ true
  all-mono t u [] f h = refl
  all-mono t u (x ∷ xs) f h = both (u x) (all u xs) (f x (both_left (t x) (all t xs) h)) (all-mono t u xs f (both_right (t x) (all t xs) h))

  pub keep_append : (t : A → Bool) (xs ys : List A) → keep t (xs ++ ys) ≡ keep t xs ++ keep t ys
  keep_append t [] ys = refl
  keep_append t (x ∷ xs) ys =
      cases (t x)
      (λ q. rw q (ap (λ (zs : List A). x ∷ zs) (keep_append t xs ys)))
      (λ q. rw q (keep_append t xs ys))

  -- what holds of those that pass, and of the others, holds of all
  pub all-kept : (t u : A → Bool) (xs : List A) → all u (keep t xs) ≡ true → ((x : A) → t x ≡ false → u x ≡ true) → all u xs ≡ true
  all-kept t u [] h o = refl
  all-kept t u (x ∷ xs) h o =
      cases (t x)
      (λ q. let h' : (u x && all u (keep t xs)) ≡ true = rw q at h in
      both (u x) (all u xs) (both_left (u x) (all u (keep t xs)) h') (all-kept t u xs (both_right (u x) (all u (keep t xs)) h') o))
      (λ q. both (u x) (all u xs) (o x q) (all-kept t u xs (rw q at h) o))

-- ---- links taken away

pub apart-without : (xs ys zs : List Hung) → all_apart (xs ++ (ys ++ zs)) ≡ true → all_apart (xs ++ zs) ≡ true
apart-without [] [] zs h = h
apart-without [] (y ∷ ys) zs h = apart-without [] ys zs (both_right (all (apart y) (ys ++ zs)) (all_apart (ys ++ zs)) h)
apart-without (x ∷ xs) ys zs h =
    let a = both_left (all (apart x) (xs ++ (ys ++ zs))) (all_apart (xs ++ (ys ++ zs))) h in
    let r = all-append-right (apart x) xs (ys ++ zs) a in
    both (all (apart x) (xs ++ zs)) (all_apart (xs ++ zs))
    (all_append (apart x) xs zs (all-append-left (apart x) xs (ys ++ zs) a) (all-append-right (apart x) ys zs r))
    (apart-without xs ys zs (both_right (all (apart x) (xs ++ (ys ++ zs))) (all_apart (xs ++ (ys ++ zs))) h))

-- ---- links added

-- Two sorts of links, each apart within itself, and any of one from any of the other.
pub apart-sorts : (t : Hung → Bool) (hs : List Hung) → all_apart (keep t hs) ≡ true → all_apart (keep (λ h. not (t h)) hs) ≡ true
    → ((x y : Hung) → t x ≡ true → t y ≡ false → (apart x y ≡ true) × (apart y x ≡ true)) → all_apart hs ≡ true
apart-sorts t [] a b c = refl
apart-sorts t (h ∷ hs) a b c =
    cases (t h)
    (λ q. let a' : (all (apart h) (keep t hs) && all_apart (keep t hs)) ≡ true = rw q at a in
    both (all (apart h) hs) (all_apart hs)
    (all-kept t (apart h) hs (both_left (all (apart h) (keep t hs)) (all_apart (keep t hs)) a') (λ y n. (c h y q n).0))
    (apart-sorts t hs (both_right (all (apart h) (keep t hs)) (all_apart (keep t hs)) a') (rw q at b) c))
    (λ q. let b' : (all (apart h) (keep (λ x. not (t x)) hs) && all_apart (keep (λ x. not (t x)) hs)) ≡ true = rw q at b in
    both (all (apart h) hs) (all_apart hs)
    (all-kept (λ x. not (t x)) (apart h) hs (both_left (all (apart h) (keep (λ x. not (t x)) hs)) (all_apart (keep (λ x. not (t x)) hs)) b')
    (λ y n. (c y h (unnot (t y) n) q).1))
    (apart-sorts t hs (rw q at a) (both_right (all (apart h) (keep (λ x. not (t x)) hs)) (all_apart (keep (λ x. not (t x)) hs)) b') c))
  where
    unnot : (x : Bool) → not x ≡ false → x ≡ true
    unnot true n = refl
    unnot false n = clash refl n

-- Links that name other places are apart.
pub apart-places : (x y : Hung) → (x.link.place ≡ y.link.place → ⊥) → apart x y ≡ true
unfolding apart
apart-places x y d = rw (ne_eqb x.link.place y.link.place d)

-- The new links of a level, from table to table.
abbrev pub new_in : (level : ℕ) → (ℕ → List Link) → List ℕ → List Hung
new_in i gain qs = flat (map (λ q. map (λ l. record { on = i; link = l }) (gain q)) qs)

-- On this level, naming this place, and not below a key.
abbrev after : (level place from : ℕ) → Hung → Bool
after i p from h = eqb h.on i && (eqb h.link.place p && leb from h.link.low)

after-apart : (es : List Entry) (i p from to : ℕ) (y : Hung) → after i p (suc to) y ≡ true → apart (record { on = i; link = new_link es p from to }) y ≡ true
unfolding apart
after-apart es i p from to y h =
    let a : y.on ≡ i = eqb-true y.on i (both_left (eqb y.on i) (eqb y.link.place p && leb (suc to) y.link.low) h) in
    let b = both_right (eqb y.on i) (eqb y.link.place p && leb (suc to) y.link.low) h in
    let c : suc to ≤ y.link.low = leb-true (suc to) y.link.low (both_right (eqb y.link.place p) (leb (suc to) y.link.low) b) in
    either-right (not (eqb p y.link.place)) (eqb i y.on && (ltb to y.link.low || ltb y.link.high from))
    (both (eqb i y.on) (ltb to y.link.low || ltb y.link.high from) (eq-eqb i y.on (sym a))
    (either_left (ltb to y.link.low) (ltb y.link.high from) (lt-ltb to y.link.low c)))

after_lower : (i p from from' : ℕ) → from' ≤ from → (y : Hung) → after i p from y ≡ true → after i p from' y ≡ true
after_lower i p from from' l y h =
    let a = both_left (eqb y.on i) (eqb y.link.place p && leb from y.link.low) h in
    let b = both_right (eqb y.on i) (eqb y.link.place p && leb from y.link.low) h in
    let c : from ≤ y.link.low = leb-true from y.link.low (both_right (eqb y.link.place p) (leb from y.link.low) b) in
    both (eqb y.on i) (eqb y.link.place p && leb from' y.link.low) a
    (both (eqb y.link.place p) (leb from' y.link.low) (both_left (eqb y.link.place p) (leb from y.link.low) b) (le-leb from' y.link.low (omega arith)))

module _ (s : Store) (es : List Entry) (p i : ℕ) (gain : ℕ → List Link) where
  pub new_apart : (from : ℕ) (qs : List ℕ) → Spans s from qs → Assigned s gain es p from qs
      → (all_apart (new_in i gain qs) ≡ true) × (all (after i p from) (new_in i gain qs) ≡ true)
  new_apart from [] sp a = (refl, refl)
  new_apart from (q ∷ []) sp a =
      cases (is_empty (within from greatest es))
      (λ e. let z : gain q ≡ [] = a ∙ rw e in rw z (refl, refl))
      (λ e. let z : gain q ≡ new_link es p from greatest ∷ [] = a ∙ rw e in
      rw (z, eq-eqb i i refl, eq-eqb p p refl, le-leb from from (omega arith)) (refl, refl))
  new_apart from (q ∷ x ∷ qs) sp a =
      let r = new_apart (suc (span_end s q)) (x ∷ qs) sp.2 a.1 in
      let low = all-mono (after i p (suc (span_end s q))) (after i p from) (new_in i gain (x ∷ qs))
      (after_lower i p (suc (span_end s q)) from (omega (arith, sp.0, sp.1))) r.1 in
      cases (is_empty (within from (span_end s q) es))
      (λ e. let z : gain q ≡ [] = a.0 ∙ rw e in rw z (r.0, low))
      (λ e. let z : gain q ≡ new_link es p from (span_end s q) ∷ [] = a.0 ∙ rw e in
      rw (z, eq-eqb i i refl, eq-eqb p p refl, le-leb from from (omega arith)) (
        both (all (apart (record { on = i; link = new_link es p from (span_end s q) })) (new_in i gain (x ∷ qs))) (all_apart (new_in i gain (x ∷ qs)))
            (all-mono (after i p (suc (span_end s q))) (apart (record { on = i; link = new_link es p from (span_end s q) }))
            (new_in i gain (x ∷ qs)) (after-apart es i p from (span_end s q)) r.1)
            r.0,
        low,
      ))
