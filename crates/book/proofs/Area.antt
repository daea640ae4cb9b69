-- The bytes of a place that lies in the area.
use Prim.Native.Nat.{ℕ, ◌+◌, ◌*◌, ◌-◌, ◌≤◌}
use mathlib.Core.Path.{◌≡◌}
use mathlib.Core.List.{List}
use native.Mathlib.Omega.{arith}
use lib.ListN.{length, take, drop, length-drop}
use lib.Seq.{length-take-le}
use Rattle.table.specs.Limits.{place_size}
use Rattle.table.specs.Table.{place_of}

pub place-long : (area : List ℕ) (p : ℕ) → (p + 1) * place_size ≤ length area → length (place_of area p) ≡ place_size
place-long area p h = length-take-le place_size (drop (p * place_size) area) (rw length-drop (omega arith))

pub place-part : (area : List ℕ) (p : ℕ) → take (p * place_size + place_size - p * place_size) (drop (p * place_size) area) ≡ place_of area p
place-part area p = let e : p * place_size + place_size - p * place_size ≡ place_size = omega arith in rw e
