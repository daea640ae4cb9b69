-- Line and distance read back from a key are those that it was built from, and every key is built from its own.
-- Both are the laws of digits in base 2^40. And what a test of two keys' order says of their numbers.
use Prim.Native.Nat.{ℕ, ◌+◌, ◌*◌, ◌^◌, ◌<◌, ◌≤◌}
use mathlib.Core.Path.{◌≡◌, sym, ◌∙◌}
use mathlib.Core.Bool.{true, false}
use native.Mathlib.Omega.{arith}
use borrow.Author.Tests.{lt-ltb, ltb-true, ltb-false, leb-true, leb-false}
use Rattle.coding.specs.Key.{key_of, line_of, distance_of}
use Rattle.std.specs.Prelude.{Some}
use Rattle.std.specs.Ordering.{nat_cmp, is_lt, is_le}
use Rattle.std.proofs.Common.{rules}
use lib.Dec.{ltb, leb}

module _ (line distance : ℕ) where
  -- what fits is built
  pub fits : line < 2 ^ 24 → distance < 2 ^ 40 → key_of line distance ≡ Some (record { value = line * 2 ^ 40 + distance })
  unfolding key_of
  fits h k = rw (lt-ltb line (2 ^ 24) h, lt-ltb distance (2 ^ 40) k)

  -- the line read back
  pub line-back : distance < 2 ^ 40 → line_of (line * 2 ^ 40 + distance) ≡ line
  line-back h = omega arith

  -- the distance read back
  pub distance_back : distance < 2 ^ 40 → distance_of (line * 2 ^ 40 + distance) ≡ distance
  distance_back h = omega arith

-- every key is that of its line and distance, which fit
pub key_back : (key : ℕ) → key < 2 ^ 64 → key_of (line_of key) (distance_of key) ≡ Some (record { value = key })
key_back key h =
    let e : line_of key * 2 ^ 40 + distance_of key ≡ key = omega arith in
    rw (fits (line_of key) (distance_of key) (omega arith) (omega arith), e)

-- `a < b` and `a <= b` of two keys are the tests of their numbers, and what each of the two says where it holds and where it doesn't.
module _ (a b : ℕ) where
  pub lt_test : is_lt (nat_cmp a b) ≡ ltb a b
  lt_test = search rules

  pub le_test : is_le (nat_cmp a b) ≡ leb a b
  le_test = search rules

  pub lt_holds : true ≡ is_lt (nat_cmp a b) → a < b
  lt_holds h = ltb-true a b (sym (h ∙ lt_test))

  pub lt_fails : false ≡ is_lt (nat_cmp a b) → b ≤ a
  lt_fails h = ltb-false a b (sym (h ∙ lt_test))

  pub le_holds : true ≡ is_le (nat_cmp a b) → a ≤ b
  le_holds h = leb-true a b (sym (h ∙ le_test))

  pub le_fails : false ≡ is_le (nat_cmp a b) → b < a
  le_fails h = leb-false a b (sym (h ∙ le_test))
