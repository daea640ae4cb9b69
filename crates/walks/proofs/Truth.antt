-- A test of the code, as the truth value that it came out as.
use Prim.Native.Nat.{ℕ, ◌<◌}
use mathlib.Core.Path.{◌≡◌, refl}
use mathlib.Core.Bool.{Bool, true, false, not}
use native.Mathlib.Nat.{lt_irrefl}
use lib.Dec.{T, ltb, eqb, lt→ltb, ltb→lt}
use borrow.Author.Tests.{eqb-true, eqb-false}

holds : (t : Bool) → T t → t ≡ true
holds true _ = refl
holds false a = absurd a

fails : (t : Bool) → (T t → ⊥) → t ≡ false
fails true f = absurd (f tt)
fails false _ = refl

pub below : (i n : ℕ) → i < n → ltb i n ≡ true
below i n l = holds (ltb i n) (lt→ltb i n l)

pub not-below : (n : ℕ) → ltb n n ≡ false
not-below n = fails (ltb n n) (λ a. lt_irrefl n (ltb→lt n n a))

-- A truth value, from what its opposite came out as.
pub found-true : (b : Bool) → T (not (not b)) → b ≡ true
found-true true t = refl
found-true false t = absurd t

pub found-false : (b : Bool) → T (not b) → b ≡ false
found-false true t = absurd t
found-false false t = refl

-- Two numbers that were found the same, or not.
pub found-same : (a b : ℕ) → T (not (not (eqb a b))) → a ≡ b
found-same a b t = eqb-true a b (found-true (eqb a b) t)

pub found-other : (a b : ℕ) → T (not (eqb a b)) → a ≡ b → ⊥
found-other a b t = eqb-false a b (found-false (eqb a b) t)
