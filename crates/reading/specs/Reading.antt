-- Readings (document 02, note 8). A reading is either whole millimetres or a 32-bit float in kilometres; it stands for the millimetre given,
-- or for every whole millimetre whose exact distance, rounded to the nearest float with ties to even, is that float. The bound is stated
-- over whole numbers from the float's bits; `specs/Exact.antt` says that these are the millimetres meant.
use Rattle.std.specs.Prelude.{ℕ, ◌+◌, ◌-◌, ◌*◌, ◌/◌, ◌%◌, ◌^◌}
use Rattle.std.specs.Prelude.{Bool, false, cond, ◌&&◌, ◌||◌, ltb, leb, eqb, pos, Float, Result, Ok, Err}
use Rattle.std.specs.Float.{fin, binary32}
use Rattle.std.specs.Float.Ieee.{lt, is_nan, to_bits}
use Rattle.coding.specs.Key.{distances}
use Rattle.reading.specs.declared.interval.Reading.{Reading}
use Rattle.reading.specs.declared.interval.Reading.TheVariants.{Millimetres, Kilometres}
use Rattle.reading.specs.declared.interval.Interval.{Interval}
use Rattle.reading.specs.declared.interval.Refused.{Refused}
use Rattle.reading.specs.declared.interval.Refused.TheVariants.{OutOfRange, NoMillimetre}

-- ---- a float that is not negative, by its 32 bits b

-- 8 bits of exponent, then 23 of fraction.
abbrev pub exponent : (b : ℕ) → ℕ
exponent b = b / 2 ^ 23

abbrev pub fraction : (b : ℕ) → ℕ
fraction b = b % 2 ^ 23

-- The float is `significand b * 2 ^ scale b` units, a unit being 2 ^ -149 kilometres.
unfoldable pub significand : (b : ℕ) → ℕ
significand b = cond (eqb (exponent b) 0) (fraction b) (2 ^ 23 + fraction b)

unfoldable pub scale : (b : ℕ) → ℕ
scale b = exponent b - 1

-- Half way to the next float above and to the next below, in quarters of 2 ^ scale b units. Below a power of two the floats lie twice
-- as close.
unfoldable pub above : (b : ℕ) → ℕ
above b = 4 * significand b + 2

unfoldable pub below : (b : ℕ) → ℕ
below b = 4 * significand b - cond (eqb (fraction b) 0 && ltb 1 (exponent b)) 1 2

-- The least and the greatest whole millimetre between the two half ways; one on a half way counts only if b is even, hence `b % 2`.
-- A kilometre is 1,000,000 = 15,625 * 2 ^ 6 millimetres, so a millimetre is 2 ^ (145 - scale b) of the quarters, each taken 15,625 times.
unfoldable pub least : (b : ℕ) → ℕ
least b = cond (eqb b 0) 0 ((below b * 15625 - 1 + b % 2) / 2 ^ (145 - scale b) + 1)

unfoldable pub greatest : (b : ℕ) → ℕ
greatest b = (above b * 15625 - b % 2) / 2 ^ (145 - scale b)

-- The millimetres from one to another, both included.
abbrev pub between : (low high : ℕ) → Result Interval Refused
between low high = Ok (record { low = low; high = high })

-- There may be none.
unfoldable pub float_interval : (b : ℕ) → Result Interval Refused
float_interval b = cond (leb (least b) (greatest b)) (between (least b) (greatest b)) (Err NoMillimetre)

-- ---- what a reading stands for

-- The bits of the greatest float that is a reading: 4,096 kilometres.
abbrev pub farthest : ℕ
farthest = 0x45800000

-- A reading below nought, above 4,096 (1 * 2 ^ 12) kilometres or not a number. Minus zero is not below nought.
unfoldable pub outside : Float → Bool
outside x = (lt x (fin false 0 (pos 0)) || lt (fin false 1 (pos 12)) x) || is_nan x

-- Millimetres fit a key's distance. Minus zero reads as zero: the sign's bit is left out.
unfoldable pub interval_of : Reading → Result Interval Refused
interval_of (Millimetres m) = cond (ltb m distances) (between m m) (Err OutOfRange)
interval_of (Kilometres x) = cond (outside x) (Err OutOfRange) (float_interval (to_bits binary32 x % 2 ^ 31))
