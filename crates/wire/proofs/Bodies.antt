-- Bodies of requests: which lengths are good, kind by kind.
use Prim.Native.Nat.{ℕ, ◌+◌, ◌≤◌}
use mathlib.Core.Path.{◌≡◌, refl}
use mathlib.Core.Bool.{true, cond, ◌&&◌}
use native.Mathlib.Omega.{arith}
use borrow.Author.Tests.{le-leb, lt-leb, ne_eqb, eqb-true, eqb-false}
use lib.Dec.{leb, eqb}
use Rattle.table.specs.Limits.{value_limit}
use Rattle.ldc.specs.Request.{known, body_good, key_size}
use Rattle.ldc.proofs.Basics.Cases.{cases}

module _ (len : ℕ) where
  pub good-1 : (leb key_size len && leb len (key_size + value_limit)) ≡ cond (known 1) (body_good 1 len) true
  unfolding known body_good
  good-1 = refl

  good-2 : eqb len 8 ≡ cond (known 2) (body_good 2 len) true
  unfolding known body_good
  good-2 = refl

  good-3 : eqb len 8 ≡ cond (known 3) (body_good 3 len) true
  unfolding known body_good
  good-3 = refl

  pub good-key : (kind : ℕ) → 2 ≤ kind → kind ≤ 3 → eqb len 8 ≡ cond (known kind) (body_good kind len) true
  good-key kind low high =
      cases (eqb kind 2)
      (λ q. let e : kind ≡ 2 = eqb-true kind 2 q in rw e good-2)
      (λ q. let e : kind ≡ 3 = omega (arith, eqb-false kind 2 q) in rw e good-3)

  pub good-4 : eqb len 16 ≡ cond (known 4) (body_good 4 len) true
  unfolding known body_good
  good-4 = refl

  pub good_none : (kind : ℕ) → 5 ≤ kind → kind ≤ 7 → eqb len 0 ≡ cond (known kind) (body_good kind len) true
  unfolding known body_good
  good_none kind low high =
      rw (
        le-leb 1 kind (omega arith),
        le-leb kind 8 (omega arith),
        ne_eqb kind 1 (λ e. omega arith),
        ne_eqb kind 2 (λ e. omega arith),
        ne_eqb kind 3 (λ e. omega arith),
        ne_eqb kind 8 (λ e. omega arith),
        ne_eqb kind 4 (λ e. omega arith),
      )

  pub good-8 : eqb len 8 ≡ cond (known 8) (body_good 8 len) true
  unfolding known body_good
  good-8 = refl

  pub good-zero : true ≡ cond (known 0) (body_good 0 len) true
  unfolding known
  good-zero = refl

  pub good-above : (kind : ℕ) → 9 ≤ kind → true ≡ cond (known kind) (body_good kind len) true
  unfolding known
  good-above kind h = rw (le-leb 1 kind (omega arith), lt-leb kind 8 h)
