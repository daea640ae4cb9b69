-- The ranges of a link: each table below gains the range from one above the previous span's end on, if the chosen table has an entry there.
-- The places of a level differ, so that each gains at most once; by induction on the tables below.
use Prim.Native.Nat.{ℕ, suc, ◌≤◌}
use mathlib.Core.Path.{◌≡◌, refl, sym, ◌∙◌, ap}
use mathlib.Core.List.Memᴰ
use mathlib.Core.List.{List, [], ◌∷◌, map, Memᴰ}
use mathlib.Core.Bool.{false, cond}
use mathlib.Core.Logic.{⊎_elim}
use native.Mathlib.Omega.{arith}
use borrow.Author.Tests.{eqb-false, eq-eqb, ne_eqb}
use lib.Dec.{eqb}
use lib.ListN.{length}
use Rattle.table.specs.Entry.{Entry}
use Rattle.ldc.specs.Lists.{how_many, is_empty}
use Rattle.ldc.specs.Store.{Link, Store, within, span_end}
use Rattle.ldc.specs.Tidy.{Slice, Reach, greatest, responsible, holding}
use Rattle.ldc.proofs.Basics.Cases.{cases}
use Rattle.ldc.proofs.Stores.Hang.{gains}

-- The link to a range of a table with these entries.
abbrev pub new_link : List Entry → (frozen from to : ℕ) → Link
new_link es p from to = record { place = p; low = from; high = to; number = length (within from to es) }

-- The link that a range gives, if it holds an entry.
abbrev pub gained : List Entry → (frozen from to : ℕ) → List Link
gained es p from to = cond (is_empty (within from to es)) [] (new_link es p from to ∷ [])

-- What each of these tables gains, from a key on.
abbrev pub Assigned : Store → (ℕ → List Link) → List Entry → (frozen from : ℕ) → List ℕ → Type 0
Assigned s gain es p from [] = Unit {0}
Assigned s gain es p from (q ∷ []) = gain q ≡ gained es p from greatest
Assigned s gain es p from (q ∷ x ∷ qs) = (gain q ≡ gained es p from (span_end s q)) × Assigned s gain es p (suc (span_end s q)) (x ∷ qs)

-- No item twice.
abbrev pub Distinct : List ℕ → Type 0
Distinct [] = Unit {0}
Distinct (q ∷ qs) = (how_many (eqb q) qs ≡ 0) × Distinct qs

pub distinct : (qs : List ℕ) → ((q : ℕ) → how_many (eqb q) qs ≤ 1) → Distinct qs
distinct [] h = tt
distinct (q ∷ qs) h =
    let a : suc (how_many (eqb q) qs) ≤ 1 = rw (eq-eqb q q refl) at (h q) in (
      omega arith,
      distinct qs (λ x. cases (eqb x q)
          (λ e. let b : suc (how_many (eqb x) qs) ≤ 1 = rw e at (h x) in omega arith)
          (λ e. rw e at (h x))),
    )

abbrev pub reaches : Store → List ℕ → List Reach
reaches s qs = map (λ q. record { place = q; end = span_end s q }) qs

module _ (s : Store) (es : List Entry) (p : ℕ) where
  -- a table that is not among them gains nothing
  gains-absent : (q from : ℕ) (qs : List ℕ) → how_many (eqb q) qs ≡ 0 → gains es q (holding es (responsible p from (reaches s qs))) ≡ []
  gains-absent q from [] h = refl
  gains-absent q from (x ∷ []) h =
      let d : eqb x q ≡ false = cases (eqb q x)
      (λ e. let z : suc 0 ≡ 0 = rw e at h in absurd (omega arith))
      (λ e. ne_eqb x q (λ y. eqb-false q x e (sym y))) in
      cases (is_empty (within from greatest es)) (λ e. rw e) (λ e. rw (e, d))
  gains-absent q from (x ∷ y ∷ qs) h =
      let d : eqb x q ≡ false = cases (eqb q x)
      (λ e. let z : suc (how_many (eqb q) (y ∷ qs)) ≡ 0 = rw e at h in absurd (omega arith))
      (λ e. ne_eqb x q (λ z. eqb-false q x e (sym z))) in
      let h' : how_many (eqb q) (y ∷ qs) ≡ 0 = cases (eqb q x)
      (λ e. let z : suc (how_many (eqb q) (y ∷ qs)) ≡ 0 = rw e at h in absurd (omega arith))
      (λ e. rw e at h) in
      cases (is_empty (within from (span_end s x) es))
      (λ e. rw e (gains-absent q (suc (span_end s x)) (y ∷ qs) h'))
      (λ e. rw (e, d) (gains-absent q (suc (span_end s x)) (y ∷ qs) h'))

  assigned-cong : (f g : ℕ → List Link) (from : ℕ) (qs : List ℕ) → ((q : ℕ) → Memᴰ q qs → f q ≡ g q) → Assigned s g es p from qs → Assigned s f es p from qs
  assigned-cong f g from [] h a = tt
  assigned-cong f g from (q ∷ []) h a = h q (Memᴰ.head refl) ∙ a
  assigned-cong f g from (q ∷ x ∷ qs) h a =
      (h q (Memᴰ.head refl) ∙ a.0, assigned-cong f g (suc (span_end s q)) (x ∷ qs) (λ y m. h y (Memᴰ.tail m)) a.1)

  absent : (q : ℕ) (qs : List ℕ) → how_many (eqb q) qs ≡ 0 → (x : ℕ) → Memᴰ x qs → eqb q x ≡ false
  absent q [] h x m = absurd (elim m [ ])
  absent q (y ∷ qs) h x m =
      cases (eqb q y)
      (λ e. let z : suc (how_many (eqb q) qs) ≡ 0 = rw e at h in absurd (omega arith))
      (λ e. ⊎_elim (λ xy. rw xy e) (λ t. absent q qs (rw e at h) x t) (Memᴰ.cases_cons m))

  pub assigned : (from : ℕ) (qs : List ℕ) → Distinct qs → Assigned s (λ q. gains es q (holding es (responsible p from (reaches s qs)))) es p from qs
  assigned from [] d = tt
  assigned from (q ∷ []) d = cases (is_empty (within from greatest es)) (λ e. rw e) (λ e. rw (e, eq-eqb q q refl))
  assigned from (q ∷ x ∷ qs) d =
      let rest : List Slice = holding es (responsible p (suc (span_end s q)) (reaches s (x ∷ qs))) in
      let none-q : gains es q rest ≡ [] = gains-absent q (suc (span_end s q)) (x ∷ qs) d.0 in (
        cases (is_empty (within from (span_end s q) es))
            (λ e. rw e none-q)
            (λ e. rw (e, eq-eqb q q refl) (ap (λ (ls : List Link). new_link es p from (span_end s q) ∷ ls) none-q)),
        assigned-cong
            (λ y. gains es y (holding es (responsible p from (reaches s (q ∷ x ∷ qs)))))
            (λ y. gains es y rest)
            (suc (span_end s q)) (x ∷ qs)
            (λ y m. cases (is_empty (within from (span_end s q) es)) (λ e. rw e) (λ e. rw (e, absent q (x ∷ qs) d.0 y m)))
            (assigned (suc (span_end s q)) (x ∷ qs) d.1),
      )
