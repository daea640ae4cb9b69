-- The greater and the lesser of two keys by their numbers.
use Prim.Native.Nat.{min, max}
use mathlib.Core.Path.{◌≡◌}
use native.Mathlib.Omega.{arith}
use borrow.Author.Tests.{ltb-true, ltb-false}
use lib.Dec.{ltb}
use Rattle.std.specs.Ordering.{nat_cmp, ord_min, ord_max}
use Rattle.table.proofs.Tests.{cases}
use Rattle.coding.specs.declared.key.Key.{Key}
use Rattle.coding.proofs.KeyLaws.{lt_test}

module _ (a b : Key) where
  pub max_value : (ord_max (λ (x y : Key). nat_cmp x.value y.value) a b).value ≡ max a.value b.value
  max_value =
      rw (lt_test b.value a.value)
      (cases (ltb b.value a.value)
      (λ q. rw q (omega (arith, ltb-true b.value a.value q)))
      (λ q. rw q (omega (arith, ltb-false b.value a.value q))))

  pub min_value : (ord_min (λ (x y : Key). nat_cmp x.value y.value) a b).value ≡ min a.value b.value
  min_value =
      rw (lt_test b.value a.value)
      (cases (ltb b.value a.value)
      (λ q. rw q (omega (arith, ltb-true b.value a.value q)))
      (λ q. rw q (omega (arith, ltb-false b.value a.value q))))
