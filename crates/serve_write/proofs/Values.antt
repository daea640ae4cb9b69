-- The value in the body of a put: the part that the code lends on, and its length.
use Prim.Native.Nat.{ℕ, ◌+◌, ◌-◌, ◌≤◌}
use mathlib.Core.Path.{◌≡◌, sym, ◌∙◌, ap}
use mathlib.Core.List.{List}
use native.Mathlib.Omega.{arith}
use lib.ListN.{length, take, drop, length-drop}
use lib.Seq.{take-length}
use Rattle.table.specs.Limits.{entry_head}
use Rattle.ldc.specs.Request.{value_in}

-- The value that the code lends on.
pub value-part : (body : List ℕ) → take (length body - 8) (drop 8 body) ≡ value_in body
unfolding value_in
value-part body = rw (← (length-drop 8 body)) (take-length (drop 8 body))

pub value-length : (body : List ℕ) → 8 ≤ length body → entry_head + length (take (length body - 8) (drop 8 body)) ≡ 4 + length body
value-length body h = ap (λ (xs : List ℕ). entry_head + length xs) (ap (λ (n : ℕ). take n (drop 8 body)) (sym (length-drop 8 body)) ∙ take-length (drop 8 body)) ∙ omega (arith, length-drop 8 body)
