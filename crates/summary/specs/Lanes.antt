-- A word as four lanes of 16 bits, for the code that adds several bytes at a time. Only contracts within `bits` speak of them.
use Rattle.std.specs.Prelude.{ℕ, ◌+◌, ◌*◌, ◌<◌, ◌≡◌}

-- The word w has these lanes, the lowest first, each with room for sums of a few.
pub record Lanes (w a b c d : ℕ) : Type 0 where
  pub word : w ≡ ((d * 65536 + c) * 65536 + b) * 65536 + a
  pub first : a < 16384
  pub second : b < 16384
  pub third : c < 16384
  pub fourth : d < 16384
