-- Spans after a link: a table that gains a range now starts where the range does, and only the last one ends later. So spans still rise.
use Prim.Native.Nat.{ℕ, suc, ◌≤◌, ◌<◌, ◌^◌, min, max}
use mathlib.Core.Path.{◌≡◌, refl, ◌∙◌, ap}
use mathlib.Core.List.Memᴰ
use mathlib.Core.List.{List, [], ◌∷◌, ◌++◌, append-nil, Memᴰ}
use mathlib.Core.Bool.{true, false, ◌&&◌}
use mathlib.Core.Logic.{⊎_elim}
use native.Mathlib.Omega.{arith}
use borrow.Author.Tests.{leb-true, leb-false, le-leb}
use lib.Dec.{leb}
use lib.ListN.{length}
use Rattle.table.specs.Entry.{Entry}
use Rattle.table.specs.Search.{least_key, greatest_key}
use Rattle.table.specs.Valid.{Keys}
use Rattle.ldc.specs.Lists.{is_empty}
use Rattle.ldc.specs.Store.{Link, Store, links, table, within, least_end, greatest_end, span_start, span_end}
use Rattle.ldc.specs.Tidy.{greatest}
use Rattle.ldc.proofs.Basics.Cases.{cases, clash, both, both_left, both_right, not-both}
use Rattle.ldc.proofs.Entries.Keys.{head-below}
use Rattle.ldc.proofs.Steps.Ranges.{new_link, gained, Assigned}
use Rattle.ldc.specs.Facts.{Spans}

-- A range that holds an entry is not upside down.
pub range-order : (from to : ℕ) (es : List Entry) → is_empty (within from to es) ≡ false → from ≤ to
unfolding within
range-order from to [] h = clash refl h
range-order from to (e ∷ es) h =
    cases (leb from e.key && leb e.key to)
    (λ q. omega (arith, leb-true from e.key (both_left (leb from e.key) (leb e.key to) q), leb-true e.key to (both_right (leb from e.key) (leb e.key to) q)))
    (λ q. range-order from to es (rw q at h))

pub least_end-append : (k : ℕ) (ls : List Link) (l : Link) → least_end k (ls ++ (l ∷ [])) ≡ min (min l.low l.high) (least_end k ls)
least_end-append k [] l = refl
least_end-append k (x ∷ ls) l = omega (arith, least_end-append k ls l)

pub greatest_end-append : (k : ℕ) (ls : List Link) (l : Link) → greatest_end k (ls ++ (l ∷ [])) ≡ max (max l.low l.high) (greatest_end k ls)
greatest_end-append k [] l = refl
greatest_end-append k (x ∷ ls) l = omega (arith, greatest_end-append k ls l)

module _ (s s' : Store) (es : List Entry) (p : ℕ) where
  -- the span of a table that may have gained a range
  gained-span : (q from to : ℕ) → table s' q ≡ table s q → links s' q ≡ links s q ++ gained es p from to → from ≤ span_start s q → span_start s q ≤ span_end s q
      → (from ≤ span_start s' q) × (span_start s' q ≤ span_end s' q) × (span_end s' q ≤ max to (span_end s q))
  unfolding span_start span_end
  gained-span q from to t e f o =
      cases (is_empty (within from to es))
      (λ y. let e' : links s' q ≡ links s q = rw y at e ∙ append-nil (links s q) in
      rw (e', t) (f, o, omega arith))
      (λ y. let l : Link = new_link es p from to in
      let e' : links s' q ≡ links s q ++ (l ∷ []) = rw y at e in
      let b : from ≤ to = range-order from to es y in
      rw (e', t, least_end-append (least_key (table s q)) (links s q) l, greatest_end-append (greatest_key (table s q)) (links s q) l)
      (omega arith, omega arith, omega arith))

  pub link-spans : (from : ℕ) (qs : List ℕ) (gain : ℕ → List Link)
      → ((q : ℕ) → Memᴰ q qs → (table s' q ≡ table s q) × (links s' q ≡ links s q ++ gain q))
      → Spans s from qs → Assigned s gain es p from qs → Spans s' from qs
  link-spans from [] gain h sp a = tt
  link-spans from (q ∷ []) gain h sp a =
      let c = h q (Memᴰ.head refl) in
      let g = gained-span q from greatest c.0 (c.1 ∙ ap (λ (ls : List Link). links s q ++ ls) a) sp.0 sp.1 in
      (g.0, g.1, tt)
  link-spans from (q ∷ x ∷ qs) gain h sp a =
      let c = h q (Memᴰ.head refl) in
      let g = gained-span q from (span_end s q) c.0 (c.1 ∙ ap (λ (ls : List Link). links s q ++ ls) a.0) sp.0 sp.1 in
      let rest = link-spans (suc (span_end s q)) (x ∷ qs) gain (λ y m. h y (Memᴰ.tail m)) sp.2 a.1 in
      (g.0, g.1, (omega (arith, g.2, rest.0), rest.1, rest.2))

  -- what one of them gains
  pub assigned-at : (from : ℕ) (qs : List ℕ) (gain : ℕ → List Link) → Assigned s gain es p from qs → (q : ℕ) → Memᴰ q qs
      → (a : ℕ) × ((b : ℕ) × (gain q ≡ gained es p a b))
  assigned-at from [] gain a q m = absurd (elim m [ ])
  assigned-at from (x ∷ []) gain a q m =
      ⊎_elim (λ e. (from, (greatest, ap gain e ∙ a))) (λ t. absurd (elim t [ ])) (Memᴰ.cases_cons m)
  assigned-at from (x ∷ y ∷ qs) gain a q m =
      ⊎_elim (λ e. (from, (span_end s x, ap gain e ∙ a.0))) (λ t. assigned-at (suc (span_end s x)) (y ∷ qs) gain a.1 q t) (Memᴰ.cases_cons m)

  -- ---- some table gains

  rest-holds : (from to : ℕ) (xs : List Entry) → is_empty (within from greatest xs) ≡ false → is_empty (within from to xs) ≡ true → is_empty (within (suc to) greatest xs) ≡ false
  unfolding within
  rest-holds from to [] a b = a
  rest-holds from to (e ∷ xs) a b =
      cases (leb (suc to) e.key && leb e.key greatest)
      (λ q. rw q)
      (λ q. cases (leb from e.key && leb e.key to)
      (λ t. let z : false ≡ true = rw t at b in clash z refl)
      (λ t. cases (leb from e.key && leb e.key greatest)
      (λ u. let f : leb from e.key ≡ true = both_left (leb from e.key) (leb e.key greatest) u in
      let g : leb e.key greatest ≡ true = both_right (leb from e.key) (leb e.key greatest) u in
      let over : to < e.key = leb-false e.key to (not-both (leb from e.key) (leb e.key to) f t) in
      clash (both (leb (suc to) e.key) (leb e.key greatest) (le-leb (suc to) e.key over) g) q)
      (λ u. rw q (rest-holds from to xs (rw u at a) (rw t at b)))))

  pub any-gains : (from q : ℕ) (qs : List ℕ) (gain : ℕ → List Link) → Assigned s gain es p from (q ∷ qs) → is_empty (within from greatest es) ≡ false
      → (x : ℕ) × ((l : Link) × Memᴰ l (gain x))
  any-gains from q [] gain a h =
      let l : Link = new_link es p from greatest in
      let z : gain q ≡ l ∷ [] = a ∙ rw h in
      (q, (l, rw z (Memᴰ.head refl)))
  any-gains from q (x ∷ qs) gain a h =
      cases (is_empty (within from (span_end s q) es))
      (λ e. any-gains (suc (span_end s q)) x qs gain a.1 (rest-holds from (span_end s q) es h e))
      (λ e. let l : Link = new_link es p from (span_end s q) in
      let z : gain q ≡ l ∷ [] = a.0 ∙ rw e in
      (q, (l, rw z (Memᴰ.head refl))))

-- A table with an entry has one in the range of all keys.
pub all-range : (es : List Entry) → 1 ≤ length es → Keys 0 (2 ^ 64) es → is_empty (within 0 greatest es) ≡ false
unfolding within
all-range [] n k = absurd (omega arith)
all-range (e ∷ es) n k = rw (le-leb 0 e.key (omega arith), le-leb e.key greatest (omega (arith, head-below 0 (2 ^ 64) e es k)))
