-- Fields one behind the other: the whole is what is left from the i-th on, one turn at a time. By induction they end within the bytes, if each
-- does.
use Prim.Native.Nat.{ℕ, zero, suc, ◌+◌, ◌-◌, ◌≤◌, ◌<◌}
use mathlib.Core.Path.{◌≡◌, sym, ap}
use mathlib.Core.Bool.{false≢true}
use mathlib.Core.Option.{Option, some, none, get_or}
use native.Mathlib.Omega.{arith}
use Rattle.ldc.specs.Lists.{is_some}
use Rattle.ldc.proofs.Basics.Cases.{maybe}
use Rattle.saved_book.specs.Form.{then, in_turn}

module _ (n : ℕ) (f : ℕ → Option ℕ) where
  pub all_left : (at : ℕ) → in_turn n f at ≡ in_turn (n - 0) f at
  all_left at = let e : n - 0 ≡ n = omega arith in rw e

  module _ (i at : ℕ) (whole : Option ℕ) (e : whole ≡ in_turn (n - i) f at) where
    pub ended : n ≤ i → some at ≡ whole
    ended h = let z : n - i ≡ 0 = omega arith in let t = rw z at e in sym t

    module _ (h : i < n) where
      one_more : n - i ≡ suc (n - (i + 1))
      one_more = omega arith

      turned : whole ≡ then (f at) (in_turn (n - (i + 1)) f)
      turned = rw one_more at e

      pub goes_on : (next : ℕ) → some next ≡ f at → whole ≡ in_turn (n - (i + 1)) f next
      goes_on next t = rw (← t) at turned

      pub stops : none ≡ f at → none ≡ whole
      stops t = let u = rw (← t) at turned in sym u

-- Where so many fields end.
pub turns-within : (m : ℕ) (f : ℕ → Option ℕ) → ((at e : ℕ) → f at ≡ some e → e ≤ m)
    → (n at e : ℕ) → at ≤ m → in_turn n f at ≡ some e → e ≤ m
turns-within m f each zero at e h t = omega (arith, ap (λ (o : Option ℕ). get_or o 0) t)
turns-within m f each (suc n) at e h t =
    maybe (f at)
    (λ q. let u = rw q at t in absurd (false≢true (ap is_some u)))
    (λ a q. let u = rw q at t in turns-within m f each n a e (each at a q) u)
