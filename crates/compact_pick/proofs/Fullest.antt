-- The fuller of two levels; products of lengths and capacities stay small.
use Prim.Native.Nat.{ℕ, zero, suc, ◌*◌, ◌≤◌, ◌<◌}
use mathlib.Core.Path.{◌≡◌}
use mathlib.Core.Bool.{true, false}
use mathlib.Core.Option.{Option, some}
use native.Mathlib.Omega.{arith}
use native.Mathlib.Nat.{mul-le-mul}
use borrow.Author.Tests.{lt-ltb, le-ltb}
use lib.Dec.{ltb}
use Rattle.ldc.specs.Layout.{most_places}
use Rattle.ldc.specs.Tidy.{capacity, fuller, prefer}
use Rattle.ldc.specs.Store.{last_level}
use Rattle.book.specs.Place.{the_index}
use Rattle.std.specs.Prelude.{Some, None}
use Rattle.compact_pick.specs.Level.{Relieved}
use Rattle.std.specs.Prelude as code

pub capacity-few : (n : ℕ) → n < last_level → capacity n ≤ 32
unfolding capacity
capacity-few zero h = omega arith
capacity-few (suc zero) h = omega arith
capacity-few (suc (suc zero)) h = omega arith
capacity-few (suc (suc (suc n))) h = absurd (omega arith)

pub product-fits : (a n : ℕ) → a ≤ most_places → n < last_level → a * capacity n ≤ most_places * 32
product-fits a n l h = mul-le-mul l (capacity-few n h)

-- The fuller of two by products that were worked out.
module _ (live : ℕ → ℕ) (n m a b c d : ℕ) (ea : a ≡ live n) (eb : b ≡ capacity m) (ec : c ≡ live m) (ed : d ≡ capacity n) where
  pub prefer-second : a * b < c * d → m ≡ prefer live n (some m)
  unfolding fuller
  prefer-second q = let f : ltb (live n * capacity m) (live m * capacity n) ≡ true = rw (ea, eb, ec, ed) at (lt-ltb (a * b) (c * d) q) in rw f

  pub prefer-first : c * d ≤ a * b → n ≡ prefer live n (some m)
  unfolding fuller
  prefer-first q = let f : ltb (live n * capacity m) (live m * capacity n) ≡ false = rw (ea, eb, ec, ed) at (le-ltb (a * b) (c * d) q) in rw f

pub below-some : (o : code.Option ℕ) → Relieved o → (m : ℕ) → the_index o ≡ some m → m < last_level
below-some (Some n) b m e = let z : n ≡ m = cc in omega (arith, b)
below-some None b m e = absurd (let z : ◌≡◌ {A = ℕ} 0 1 = cc in omega arith)
