-- Runs of zeros: their length, two in a row, and what `all_zero` finds. By induction on the length.
use Prim.Native.Nat.{ℕ, zero, suc, ◌+◌}
use mathlib.Core.Path.{◌≡◌, refl, ap}
use mathlib.Core.Bool.{true}
use mathlib.Core.List.{List, [], ◌∷◌, ◌++◌}
use native.Mathlib.Omega.{arith}
use native.Mathlib.Nat.{suc-add, zero-add}
use borrow.Author.Tests.{eqb-true}
use lib.Dec.{eqb}
use lib.ListN.{length}
use Rattle.std.specs.Prelude.{replicate}
use Rattle.coding.specs.Number.{Bytes}
use Rattle.table.specs.Table.{zeros, all_zero}
use Rattle.table.proofs.Tests.{and_parts}

pub length-zeros : (n : ℕ) → length (zeros n) ≡ n
unfolding zeros
length-zeros zero = refl
length-zeros (suc n) = ap suc (length-zeros n)

pub zeros-add : (m n : ℕ) → zeros (m + n) ≡ zeros m ++ zeros n
unfolding zeros
zeros-add zero n = rw (zero-add n)
zeros-add (suc m) n = rw (suc-add m n, zeros-add m n)

pub zeros-replicate : (n : ℕ) → zeros n ≡ replicate n 0
unfolding zeros
zeros-replicate zero = refl
zeros-replicate (suc n) = ap (λ s. 0 ∷ s) (zeros-replicate n)

-- Bytes that are all zero are a run of zeros, and the other way round.
pub zero-bytes : (s : List ℕ) → all_zero s ≡ true → s ≡ zeros (length s)
unfolding zeros all_zero
zero-bytes [] h = refl
zero-bytes (b ∷ s) h =
    let p = and_parts (eqb b 0) (all_zero s) h in
    let e : b ≡ 0 = eqb-true b 0 p.0 in
    let r = zero-bytes s p.1 in
    cc

pub zeros-zero : (n : ℕ) → all_zero (zeros n) ≡ true
unfolding zeros all_zero
zeros-zero zero = refl
zeros-zero (suc n) = zeros-zero n

pub bytes-zeros : (n : ℕ) → Bytes (zeros n)
unfolding zeros
bytes-zeros zero i = omega arith
bytes-zeros (suc n) zero = omega arith
bytes-zeros (suc n) (suc i) = bytes-zeros n i
