-- What the interval of a float is worth (document 02, note 8): it has every whole millimetre whose exact distance, rounded to the nearest
-- float with ties to even, is that float, and no other. The rounding is that of IEEE 754 (`lib.Ieee.round`), which the interval's own
-- definition does not use. `proofs/Exactness.antt` shows the claim.
use Rattle.std.specs.Prelude.{ℕ, ◌%◌, ◌^◌, ◌≤◌, ◌<◌, ◌≡◌, false, cond, ◌||◌, leb, eqb, Result, Ok, Err}
use lib.Ieee.{binary32, round, of_bits}
use Rattle.reading.specs.declared.interval.Reading.TheVariants.{Kilometres}
use Rattle.reading.specs.declared.interval.Interval.{Interval}
use Rattle.reading.specs.declared.interval.Refused.{Refused}
use Rattle.reading.specs.declared.interval.Refused.TheVariants.{OutOfRange}
use Rattle.reading.specs.Reading.{farthest, float_interval, interval_of}

-- The millimetres of an interval.
abbrev pub In : (m : ℕ) → Result Interval Refused → Type 0
In m (Ok i) = (i.low ≤ m) × (m ≤ i.high)
In m (Err e) = ⊥

-- The exact distance of m millimetres, m / 1,000,000 kilometres, rounds to the float of the bits b.
abbrev pub RoundsTo : (b m : ℕ) → Type 0
RoundsTo b m = round binary32 false m 1000000 ≡ of_bits binary32 b

pub record Exact : Type 0 where
  -- from 0 to 4,096 kilometres, every millimetre of the interval rounds to the float
  pub all-round : (b m : ℕ) → b ≤ farthest → In m (float_interval b) → RoundsTo b m
  -- and every one that rounds to it is in the interval
  pub no_other : (b m : ℕ) → b ≤ farthest → RoundsTo b m → In m (float_interval b)
  -- a reading by its 32 bits, over whole numbers alone: that of a float from 0 to 4,096 kilometres, or of minus zero, whose bits are 2 ^ 31
  pub by_bits : (b : ℕ) → b < 2 ^ 32
      → interval_of (Kilometres (of_bits binary32 b)) ≡ cond (leb b farthest || eqb b (2 ^ 31)) (float_interval (b % 2 ^ 31)) (Err OutOfRange)
