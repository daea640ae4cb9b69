-- The requests of a list from a position on.
use Rattle.std.specs.Prelude.{ℕ, ◌-◌, List, length}
use Rattle.std.proofs.Math.Option.{Option}
use Rattle.ldc.specs.Request.{Request}
use Rattle.ldc.specs.Run.{split_at}

-- As many steps as bytes are left are enough.
unfoldable pub rest : List ℕ → (at : ℕ) → Option (List Request)
rest bytes at = split_at (length bytes - at) bytes at
