-- What an iterator's `all` says of a list, as the definition has it.
use Prim.Native.Nat.{ℕ, zero, suc, ◌+◌, ◌-◌, ◌≤◌, ◌<◌}
use mathlib.Core.Path.{◌≡◌, refl, sym, ◌∙◌, ap, subst}
use mathlib.Core.Bool.{Bool, true, false, and-false}
use mathlib.Core.List.{List, [], ◌∷◌}
use native.Mathlib.Omega.{arith}
use borrow.Author.Tests.{ltb-true}
use lib.Dec.{ltb}
use native.Mathlib.Numerals.{add-one}
use lib.ListN.{length, drop, drop_of_length-le}
use denote.Param.Members.{Mut}
use denote.Ref.{Bor}
use Rattle.std.proofs.Common.{rules, Some, Iter}
use Rattle.std.specs.declared.ops.Range.{Range}
use Rattle.std.proofs.iter.Yields.{fronts, nat_range_steps}
use Rattle.std.proofs.lemmas.Iterator.{cases_from_all, YieldsList-from_slice, YieldsList-from_range}
use Rattle.std.specs.Fn.{Called}
use Rattle.std.specs.Iterator.{Yields, CallableAtEachTurn, ChecksAll}
use Rattle.std.specs.Bool.{MatchBool}
use Rattle.std.specs.List.{FoldsTo, AllWithin, HoldsAt, range_with_len}
use Rattle.table.proofs.Tests.{and_parts}
use Rattle.ldc.specs.Lists.{all, all_from}
use Rattle.ldc.specs.Store.{Link}
use Rattle.ldc.specs.Layout.{link_at}
use Rattle.book.specs.Row.{links_in}
use Rattle.book.proofs.Rows.{links-cons}
use Rattle.check_walk.specs.Links.{pairs}
use Rattle.check_walk.specs.Lists.{names_places}

-- ---- a closure that is called at each item of a slice

-- K holds of each element.
abbrev pub Held : {A : Type 0} → (A → Type 0) → List A → Type 0
Held K [] = Unit {0}
Held K (x ∷ xs) = K x × Held K xs

at-item : {A : Type 0} (K : A → Type 0) (xs : List (Bor A)) (s t u : Iter A) (x : Bor A)
    → Held K s.rest.now → Yields fronts s xs t → fronts t (Some x) u → K x.now
at-item K [] s t u x h y e = let same : t.rest.now ≡ s.rest.now = ap (λ (r : Iter _). r.rest.now) (sym y) in (rw (sym same ∙ e) at h).0
at-item K (y ∷ ys) s t u x h g e = at-item K ys g.0 t u x (rw g.1 at h).1 g.2 e

stays : {A P : Type 0} (R : P → Bor A → P → Type 0) → ((p : P) (x : Bor A) (q : P) → R p x q → q ≡ p)
    → (xs : List (Bor A)) (p q : P) → FoldsTo R p xs q → q ≡ p
stays R keeps [] p q f = search rules
stays R keeps (x ∷ xs) p q f = stays R keeps xs f.0 q f.2 ∙ keeps p x f.0 f.1

-- Where K allows a call, and calls leave the closure as it was, it may be called at each item.
pub served : {A P : Type 0} {R : P → Bor A → P → Type 0} {Q : P → Bor A → Type 0} {s : Iter A} {p : P} (K : A → Type 0)
    → Held K s.rest.now → ((p : P) (x : Bor A) (q : P) → R p x q → q ≡ p) → ((x : Bor A) → K x.now → Q p x)
    → CallableAtEachTurn fronts R Q s p
served {R = R} {Q = Q} {s = s} {p = p} K held keeps may =
    record { at = λ xs t q x u y f e. subst (λ z. Q z x) (sym (stays R keeps xs p q f)) (may x (at-item K xs s t u x held y e)) }

-- Items that name places are each below their number.
pub below-all : (places : ℕ) (items : List ℕ) → names_places places items ≡ true → Held (λ x. x < places) items
unfolding names_places
below-all places [] h = tt
below-all places (x ∷ items) h = let b = and_parts (ltb x places) _ h in (ltb-true x places b.0, below-all places items b.1)

-- ---- what it answers

module _ {A : Type 0} (test : A → Bool) where
  all-pass : (xs : List A) → AllWithin (λ x. test x ≡ true) xs 0 (length xs) → all test xs ≡ true
  all-pass [] h = refl
  all-pass (x ∷ xs) h = rw (h 0 x (omega arith) (omega arith)) (all-pass xs (λ k d l m. h (suc k) d (omega arith) (omega arith)))

  one-fails : (xs : List A) (k : ℕ) → k < length xs → HoldsAt (λ x. test x ≡ false) xs k → all test xs ≡ false
  one-fails [] k l h = absurd (omega arith)
  one-fails (x ∷ xs) zero l h = rw (h x)
  one-fails (x ∷ xs) (suc k) l h = rw (one-fails xs k (omega arith) h) (and-false (test x))

  by-items : (xs : List A) (r : Bool)
      → MatchBool r (AllWithin (λ x. test x ≡ true) xs 0 (length xs)) ((k : ℕ) × (k < length xs) × HoldsAt (λ x. test x ≡ false) xs k)
      → r ≡ all test xs
  by-items xs true h = sym (all-pass xs h)
  by-items xs false h = sym (one-fails xs h.0 h.1 h.2)

-- Where a call says what the test says of its item, and leaves the closure as it was, `all` over a slice says whether all pass.
pub all-items : {A F : Type 0} {g : Mut F (Bor A × Unit {0}) Bool} {s u : Iter A} {f : F} (test : A → Bool) (xs : List A) (r : Bool)
    → s.rest.now ≡ xs → ChecksAll fronts g s f r u
    → ((x : Bor A) (q : F) → Called g f (x, tt) true q → (q ≡ f) × (test x.now ≡ true))
    → ((x : Bor A) (q : F) → Called g f (x, tt) false q → test x.now ≡ false)
    → r ≡ all test xs
all-items test xs r e ran passes fails =
    by-items test xs r (cases_from_all _ _ _ (λ x. test x ≡ true) (λ x. test x ≡ false) ran (YieldsList-from_slice xs e) passes fails)

-- ---- a range

range-from : (test : ℕ → Bool) (n low : ℕ) → all test (range_with_len low n) ≡ all_from n low test
range-from test zero low = refl
range-from test (suc n) low = rw (range-from test n (low + 1), add-one low)

-- The same of `all` over a range.
pub all-range : {F : Type 0} {g : Mut F (ℕ × Unit {0}) Bool} {s u : Range ℕ} {f : F} (test : ℕ → Bool) (low high : ℕ) (r : Bool)
    → s ≡ record { start = low; end = high } → ChecksAll nat_range_steps g s f r u
    → ((x : ℕ) (q : F) → Called g f (x, tt) true q → (q ≡ f) × (test x ≡ true))
    → ((x : ℕ) (q : F) → Called g f (x, tt) false q → test x ≡ false)
    → r ≡ all_from (high - low) low test
all-range test low high r e ran passes fails =
    by-items test (range_with_len low (high - low)) r
    (cases_from_all _ _ _ (λ x. test x ≡ true) (λ x. test x ≡ false) ran (YieldsList-from_range low high (high - low) e refl) passes fails)
    ∙ range-from test (high - low) low

-- The links of a row, asked by their numbers: one by one, and each with those behind it.
pub links-from : (test : Link → Bool) (row : List ℕ) (n j : ℕ) → length (links_in row) - j ≡ n
    → all_from n j (λ i. test (link_at row i)) ≡ all test (drop j (links_in row))
links-from test row zero j e = let l : length (links_in row) ≤ j = omega arith in rw (drop_of_length-le (links_in row) {i = j} l)
links-from test row (suc n) j e =
    let l : j < length (links_in row) = omega arith in
    let rest = links-from test row n (j + 1) (omega arith) in
    rw (links-cons row j l, ← rest, add-one j)

pub pairs-from : (test : Link → Link → Bool) (row : List ℕ) (n j : ℕ) → length (links_in row) - j ≡ n
    → all_from n j (λ i. all (test (link_at row i)) (drop (i + 1) (links_in row))) ≡ pairs test (drop j (links_in row))
pairs-from test row zero j e = let l : length (links_in row) ≤ j = omega arith in rw (drop_of_length-le (links_in row) {i = j} l)
pairs-from test row (suc n) j e =
    let l : j < length (links_in row) = omega arith in
    let rest = pairs-from test row n (j + 1) (omega arith) in
    rw (links-cons row j l, ← rest, add-one j)
