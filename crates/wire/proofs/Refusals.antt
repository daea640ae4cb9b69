-- What refuses has a number that is not that of an accepted call.
use Prim.Native.Nat.{ℕ}
use mathlib.Core.Path.{◌≡◌}
use native.Mathlib.Omega.{arith}
use Rattle.ldc.specs.Run.{accepted}
use Rattle.wire.specs.Refusal.{refusal_number}
use Rattle.wire.specs.declared.refusal.Refusal.{Refusal}
use Rattle.wire.specs.declared.refusal.Refusal.TheVariants.{WrongSizes, BadThreshold, ShortAnswer, BrokenList, Unsound, NotABook, FewerPlaces}

pub refused-number : (e : Refusal) → refusal_number e ≡ accepted → ⊥
refused-number WrongSizes h = omega arith
refused-number BadThreshold h = omega arith
refused-number ShortAnswer h = omega arith
refused-number BrokenList h = omega arith
refused-number (Unsound rule) h = omega arith
refused-number NotABook h = omega arith
refused-number FewerPlaces h = omega arith
