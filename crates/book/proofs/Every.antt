-- One turn of a loop that asks a test of every element, of a list or of a run of numbers: it stops at one that fails, goes on at one
-- that passes, and where none is left all have passed. `whole` is what the loop is to find.
use Prim.Native.Nat.{ℕ, suc, ◌+◌, ◌-◌, ◌≤◌, ◌<◌}
use mathlib.Core.Path.{◌≡◌, sym, ◌∙◌}
use mathlib.Core.Bool.{Bool, true, false, ◌&&◌}
use mathlib.Core.List.{List, []}
use native.Mathlib.Omega.{arith}
use native.Mathlib.Numerals.{add-one}
use lib.ListN.{length, get_or, drop, drop_of_length-le}
use lib.Seq.{drop-cons}
use Rattle.ldc.specs.Lists.{all, all_from}
use Rattle.ldc.proofs.Basics.ListLaws.{all-at, mem-get_or}

module _ {ℓ} {A : Type ℓ} (test : A → Bool) (xs : List A) where
  pub all-turn : (i : ℕ) (d : A) → i < length xs → all test (drop i xs) ≡ (test (get_or xs i d) && all test (drop (i + 1) xs))
  all-turn i d h = rw (add-one i, drop-cons xs i d h)

  pub all-fails : {whole : Bool} (i : ℕ) (d : A) → i < length xs → whole ≡ all test (drop i xs) → test (get_or xs i d) ≡ false → false ≡ whole
  all-fails i d h inv f = sym (inv ∙ all-turn i d h ∙ rw f)

  pub all-passes : {whole : Bool} (i : ℕ) (d : A) → i < length xs → whole ≡ all test (drop i xs) → test (get_or xs i d) ≡ true
      → whole ≡ all test (drop (i + 1) xs)
  all-passes i d h inv t = inv ∙ all-turn i d h ∙ rw t

  pub all_done : {whole : Bool} (i : ℕ) → length xs ≤ i → whole ≡ all test (drop i xs) → true ≡ whole
  all_done i h inv = let none : drop i xs ≡ [] = drop_of_length-le xs {i = i} h in sym (inv ∙ rw none)

  -- What all pass, the one at an index passes.
  pub all_get_d : (i : ℕ) (d : A) → all test xs ≡ true → i < length xs → test (get_or xs i d) ≡ true
  all_get_d i d h hi = all-at test xs h (mem-get_or xs i d hi)

module _ (test : ℕ → Bool) (n : ℕ) where
  pub from-turn : (i : ℕ) → i < n → all_from (n - i) i test ≡ (test i && all_from (n - (i + 1)) (i + 1) test)
  from-turn i h =
      let e : n - i ≡ suc (n - (i + 1)) = omega arith in
      rw (e, add-one i)

  pub from-fails : {whole : Bool} (i : ℕ) → i < n → whole ≡ all_from (n - i) i test → test i ≡ false → false ≡ whole
  from-fails i h inv f = sym (inv ∙ from-turn i h ∙ rw f)

  pub from-passes : {whole : Bool} (i : ℕ) → i < n → whole ≡ all_from (n - i) i test → test i ≡ true
      → whole ≡ all_from (n - (i + 1)) (i + 1) test
  from-passes i h inv t = inv ∙ from-turn i h ∙ rw t

  pub from-done : {whole : Bool} (i : ℕ) → n ≤ i → whole ≡ all_from (n - i) i test → true ≡ whole
  from-done i h inv = let e : n - i ≡ 0 = omega arith in sym (inv ∙ rw e)
