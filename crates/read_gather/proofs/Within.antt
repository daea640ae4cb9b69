-- What a range leaves of rising entries: nothing beside their keys, all of them where it holds their keys, and the same part of what a
-- test leaves. By induction on the entries.
use Prim.Native.Nat.{ℕ, suc, ◌≤◌, ◌<◌}
use mathlib.Core.Path.{◌≡◌, refl, ap}
use mathlib.Core.Bool.{Bool, ◌&&◌}
use mathlib.Core.List.{List, [], ◌∷◌, ◌++◌, map}
use native.Mathlib.Omega.{arith}
use borrow.Author.Tests.{leb-true, leb-false, le-leb, lt-leb}
use lib.Dec.{leb}
use Rattle.table.specs.Entry.{Entry}
use Rattle.table.specs.Valid.{Keys}
use Rattle.ldc.specs.Lists.{keep}
use Rattle.ldc.specs.Store.{within}
use Rattle.ldc.proofs.Basics.Cases.{cases}
use Rattle.ldc.proofs.Entries.Keys.{keys-lower, keys-higher, keys-within, head-below}
use Rattle.ldc.proofs.Steps.Apart.{keep_append}
use Rattle.read_gather.specs.Gathered.{key_of}
use Rattle.read_gather.proofs.Means.{rises-lower, keys-rise}
use Rattle.read_gather.proofs.Ranges.{over}

-- ---- beside the keys

pub below-range : (low high from to : ℕ) (es : List Entry) → Keys from to es → to ≤ low → within low high es ≡ []
unfolding within
below-range low high from to [] h l = refl
below-range low high from to (e ∷ es) h l =
    rw (lt-leb low e.key (omega (arith, head-below from to e es h))) (below-range low high (suc e.key) to es h.1 l)

pub above-range : (low high from to : ℕ) (es : List Entry) → Keys from to es → high < from → within low high es ≡ []
above-range low high from to es h l = over low high es (rises-lower from (suc high) (map key_of es) l (keys-rise from to es h))

-- A range that ends before it begins.
pub no-range : (low high : ℕ) (es : List Entry) → high < low → within low high es ≡ []
unfolding within
no-range low high [] h = refl
no-range low high (e ∷ es) h =
    cases (leb low e.key)
    (λ q. rw (q, lt-leb e.key high (omega (arith, leb-true low e.key q))) (no-range low high es h))
    (λ q. rw q (no-range low high es h))

-- ---- around them

pub within_all : (low from high : ℕ) (es : List Entry) → Keys from (suc high) es → low ≤ from → within low high es ≡ es
unfolding within
within_all low from high [] h l = refl
within_all low from high (e ∷ es) h l =
    rw (le-leb low e.key (omega (arith, h.0)), le-leb e.key high (omega (arith, head-below from (suc high) e es h)))
    (ap (λ (xs : List Entry). e ∷ xs) (within_all low (suc e.key) high es h.1 (omega (arith, h.0))))

-- What a range leaves lies between two keys where the range does.
pub keys_between : (a b low high from to : ℕ) (es : List Entry) → Keys low high es → a ≤ b → a ≤ from → to < b → Keys a b (within from to es)
keys_between a b low high from to es h o l m =
    cases (leb from (suc to))
    (λ q. keys-lower from a b (within from to es) l
    (keys-higher from (suc to) b (within from to es) m (keys-within low high from to es (leb-true from (suc to) q) h)))
    (λ q. rw (no-range from to es (omega (arith, leb-false from (suc to) q))) o)

-- ---- put together, and with a test

pub within-append : (low high : ℕ) (xs ys : List Entry) → within low high (xs ++ ys) ≡ within low high xs ++ within low high ys
unfolding within
within-append low high xs ys = keep_append (λ e. leb low e.key && leb e.key high) xs ys

keep-swap : (t u : Entry → Bool) (es : List Entry) → keep t (keep u es) ≡ keep u (keep t es)
keep-swap t u [] = refl
keep-swap t u (e ∷ es) =
    cases (t e)
    (λ p. cases (u e) (λ q. rw (p, q, p) (ap (λ (xs : List Entry). e ∷ xs) (keep-swap t u es))) (λ q. rw (p, q) (keep-swap t u es)))
    (λ p. cases (u e) (λ q. rw (p, q, p) (keep-swap t u es)) (λ q. rw (p, q) (keep-swap t u es)))

pub within-keep : (t : Entry → Bool) (low high : ℕ) (es : List Entry) → within low high (keep t es) ≡ keep t (within low high es)
unfolding within
within-keep t low high es = keep-swap (λ e. leb low e.key && leb e.key high) t es
