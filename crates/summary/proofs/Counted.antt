-- How many bits are set: in each byte at most eight.
use Prim.Native.Nat.{ℕ, suc, ◌*◌, ◌≤◌}
use mathlib.Core.List.{List, [], ◌∷◌}
use native.Mathlib.Omega.{arith}
use lib.Count.{ones-le}
use lib.ListN.{length}
use Rattle.coding.proofs.NumberLaws.{Bytes}
use Rattle.summary.specs.Summary.{summary_of, bits_set}
use Rattle.summary.proofs.Form.{length-summary, bytes-summary}

pub bits-bound : (s : List ℕ) → Bytes s → bits_set s ≤ 8 * length s
bits-bound [] b = omega arith
bits-bound (x ∷ s) b = omega (arith, ones-le 8 x (b 0), bits-bound s (λ i. b (suc i)))

pub bits-few : (ks : List ℕ) → bits_set (summary_of ks) ≤ 256
bits-few ks = omega (arith, bits-bound (summary_of ks) (bytes-summary ks), length-summary ks)
