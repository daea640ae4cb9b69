-- The definitions worked out: the document's examples, the ends of the range, and which answer comes first. Each is computed.
use Prim.Native.Nat.{ℕ, ◌^◌}
use mathlib.Core.Path.{◌≡◌, refl}
use mathlib.Core.Bool.{true, false}
use mathlib.Core.List.{List, ◌++◌}
use lib.Ieee.{binary32, of_bits, to_bits, lt, is_nan}
use Rattle.coding.specs.Number.{bytes_of, number_at}
use Rattle.coding.specs.Key.{key_on}
use Rattle.reading.specs.declared.interval.Reading.TheVariants.{Kilometres}
use Rattle.std.specs.Prelude.{Result, Ok, Err}
use Rattle.reading.specs.declared.interval.Interval.{Interval}
use Rattle.reading.specs.declared.interval.Refused.{Refused}
use Rattle.reading.specs.declared.interval.Refused.TheVariants.{OutOfRange, NoMillimetre}
use Rattle.reading.specs.Reading.{farthest, significand, scale, above, below, least, greatest, between, float_interval, outside, interval_of}
use Rattle.reading.specs.Body.{length_good, keys_of, keys_in}

abbrev of_float : (b : ℕ) → Result Interval Refused
of_float b = interval_of (Kilometres (of_bits binary32 b))

-- 100.0; minus zero, which reads as zero; 4,096.0 and the float after it; the smallest float above zero, the greatest below it, and one that
-- is not a number.
floats : (of_float 0x42c80000 ≡ between 99999997 100000003)
    × (of_float 0x80000000 ≡ between 0 0)
    × (of_float farthest ≡ between 4095999878 4096000244)
    × (of_float 0x45800001 ≡ Err OutOfRange)
    × (of_float 0x00000001 ≡ Err NoMillimetre)
    × (of_float 0x80000001 ≡ Err OutOfRange)
    × (of_float 0x7fc00000 ≡ Err OutOfRange)
unfolding interval_of outside float_interval least greatest below above scale significand of_bits to_bits lt is_nan
floats = (refl, refl, refl, refl, refl, refl, refl)

abbrev asked : (line form bits : ℕ) → List ℕ
asked line form bits = bytes_of 4 line ++ bytes_of 2 form ++ bytes_of 4 bits

-- 100.0 on line 12; a line out of range before a float that no millimetre rounds to, and that float on a line.
answers : (keys_in (asked 12 1 0x42c80000) ≡ Ok (record { low = key_on 12 99999997; high = key_on 12 100000003 }))
    × (keys_in (asked (2 ^ 24) 1 1) ≡ Err OutOfRange)
    × (keys_in (asked 12 1 1) ≡ Err NoMillimetre)
unfolding keys_in keys_of interval_of outside float_interval least greatest below above scale significand of_bits to_bits lt is_nan bytes_of number_at
answers = (refl, refl, refl)

-- Ten bytes in form 0 are 17. Form 256, which is not 0, passes with them and is out of range.
forms : (length_good (asked 12 0 0) ≡ false) × (length_good (asked 12 256 0) ≡ true) × (keys_in (asked 12 256 0) ≡ Err OutOfRange)
unfolding length_good keys_in bytes_of number_at
forms = (refl, refl, refl)
