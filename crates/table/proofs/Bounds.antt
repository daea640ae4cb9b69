-- In entries whose keys rise, every key lies between the least and the greatest. By induction on the entries.
use Prim.Native.Nat.{ℕ, zero, suc, ◌≤◌, ◌<◌}
use mathlib.Core.Path.{◌≡◌, refl}
use mathlib.Core.List.{List, [], ◌∷◌, ◌++◌}
use mathlib.Core.Option.{none}
use native.Mathlib.Omega.{arith}
use borrow.Author.Tests.{ne_eqb, lt-leb}
use lib.ListN.{length, get_or}
use Rattle.table.specs.Entry.{Entry}
use Rattle.table.specs.Search.{find, first_from, least_key, greatest_key}
use Rattle.table.specs.Valid.{Keys}

-- The bounds of keys are in order.
pub keys_below : (low high : ℕ) (es : List Entry) → Keys low high es → low ≤ high
keys_below low high [] h = h
keys_below low high (e ∷ es) h = let r = keys_below (suc e.key) high es h.1 in omega (arith, h.0)

-- Every key is from `low` on.
pub keys_from : (es : List Entry) (low high : ℕ) → Keys low high es → (i : ℕ) (d : Entry) → i < length es → low ≤ (get_or es i d).key
keys_from [] low high h i d hi = absurd (omega arith)
keys_from (e ∷ es) low high h zero d hi = h.0
keys_from (e ∷ es) low high h (suc i) d hi =
    let r = keys_from es (suc e.key) high h.1 i d (omega arith) in
    omega (arith, h.0)

-- Every key lies between the first and the last.
pub from-least : (es : List Entry) (low high : ℕ) → Keys low high es → (i : ℕ) (d : Entry) → i < length es → least_key es ≤ (get_or es i d).key
unfolding least_key
from-least [] low high h i d hi = absurd (omega arith)
from-least (e ∷ es) low high h i d hi = keys_from (e ∷ es) e.key high (omega arith, h.1) i d hi

pub to-greatest : (es : List Entry) (low high : ℕ) → Keys low high es → (i : ℕ) (d : Entry) → i < length es → (get_or es i d).key ≤ greatest_key es
unfolding greatest_key
to-greatest [] low high h i d hi = absurd (omega arith)
to-greatest (e ∷ []) low high h zero d hi = omega arith
to-greatest (e ∷ []) low high h (suc i) d hi = absurd (omega arith)
to-greatest (e ∷ f ∷ es) low high h zero d hi =
    let r = to-greatest (f ∷ es) (suc e.key) high h.1 0 d (omega arith) in
    omega (arith, h.1.0)
to-greatest (e ∷ f ∷ es) low high h (suc i) d hi = to-greatest (f ∷ es) (suc e.key) high h.1 i d (omega arith)

-- Outside of these bounds nothing is found.
keys_none : (es : List Entry) (low high k : ℕ) → Keys low high es → k < low → find k es ≡ none
unfolding find
keys_none [] low high k h hk = refl
keys_none (e ∷ es) low high k h hk =
    rw (ne_eqb e.key k (λ q. omega (arith, h.0))) (keys_none es (suc e.key) high k h.1 (omega (arith, h.0)))

pub find-below : (es : List Entry) (low high k : ℕ) → Keys low high es → k < least_key es → find k es ≡ none
unfolding least_key
find-below [] low high k h hk = absurd (omega arith)
find-below (e ∷ es) low high k h hk = keys_none (e ∷ es) e.key high k (omega arith, h.1) hk

pub find-above : (es : List Entry) (low high k : ℕ) → Keys low high es → greatest_key es < k → find k es ≡ none
unfolding find greatest_key
find-above [] low high k h hk = refl
find-above (e ∷ []) low high k h hk = rw (ne_eqb e.key k (λ q. omega arith))
find-above (e ∷ f ∷ es) low high k h hk =
    let g = to-greatest (f ∷ es) (suc e.key) high h.1 0 e (omega arith) in
    rw (ne_eqb e.key k (λ q. omega (arith, h.1.0, g))) (find-above (f ∷ es) (suc e.key) high k h.1 hk)

pub from-above : (es : List Entry) (low high k : ℕ) → Keys low high es → greatest_key es < k → first_from k es ≡ none
unfolding first_from greatest_key
from-above [] low high k h hk = refl
from-above (e ∷ []) low high k h hk = rw (lt-leb k e.key hk)
from-above (e ∷ f ∷ es) low high k h hk =
    let g = to-greatest (f ∷ es) (suc e.key) high h.1 0 e (omega arith) in
    rw (lt-leb k e.key (omega (arith, h.1.0, g))) (from-above (f ∷ es) (suc e.key) high k h.1 hk)

-- An entry above all keys may stand behind them.
pub keys-snoc : (es : List Entry) (e : Entry) (low high : ℕ) → Keys low e.key es → e.key < high → Keys low high (es ++ e ∷ [])
keys-snoc [] e low high h hk = (h, hk)
keys-snoc (f ∷ es) e low high h hk = (h.0, keys-snoc es e (suc f.key) high h.1 hk)
