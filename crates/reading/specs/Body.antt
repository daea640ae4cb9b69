-- The body of a request by a reading (document 02, note 8): line (4 bytes, below 2^24), form (2) and reading (form 0: 8 bytes of
-- millimetres; form 1: 4 bytes of float).
use Rattle.std.specs.Prelude.{ℕ, ◌+◌, List, Bool, cond, ◌||◌, ltb, eqb, length, Result, Ok, Err}
use Rattle.std.specs.Float.{binary32}
use Rattle.std.specs.Float.Ieee.{of_bits}
use Rattle.coding.specs.Number.{number_at}
use Rattle.coding.specs.Key.{lines, key_on}
use Rattle.reading.specs.declared.body.KeyRange.{KeyRange}
use Rattle.reading.specs.declared.interval.Reading.{Reading}
use Rattle.reading.specs.declared.interval.Reading.TheVariants.{Millimetres, Kilometres}
use Rattle.reading.specs.declared.interval.Interval.{Interval}
use Rattle.reading.specs.declared.interval.Refused.{Refused}
use Rattle.reading.specs.declared.interval.Refused.TheVariants.{OutOfRange}
use Rattle.reading.specs.Reading.{interval_of}

-- ---- the parts of a body

abbrev pub line_in : List ℕ → ℕ
line_in body = number_at 4 body 0

abbrev pub form_in : List ℕ → ℕ
form_in body = number_at 2 body 4

-- The reading stands behind line and form.
abbrev pub reading_start : ℕ
reading_start = 6

-- The two forms, each with its width in bytes and the reading in a body.
abbrev pub millimetre_form : ℕ
millimetre_form = 0

abbrev pub millimetre_width : ℕ
millimetre_width = 8

abbrev pub millimetres_in : List ℕ → Reading
millimetres_in body = Millimetres (number_at millimetre_width body reading_start)

abbrev pub kilometre_form : ℕ
kilometre_form = 1

abbrev pub kilometre_width : ℕ
kilometre_width = 4

abbrev pub kilometres_in : List ℕ → Reading
kilometres_in body = Kilometres (of_bits binary32 (number_at kilometre_width body reading_start))

-- ---- number 17: a body that is neither 14 nor 10 bytes, or not the length of its form

abbrev pub millimetre_length : ℕ
millimetre_length = reading_start + millimetre_width

abbrev pub kilometre_length : ℕ
kilometre_length = reading_start + kilometre_width

-- A form that does not exist may have either length: it is 23.
unfoldable pub length_good : (body : List ℕ) → Bool
length_good body =
    cond (eqb (form_in body) millimetre_form) (eqb (length body) millimetre_length)
    (cond (eqb (form_in body) kilometre_form) (eqb (length body) kilometre_length)
    (eqb (length body) millimetre_length || eqb (length body) kilometre_length))

-- ---- the keys of a reading: on its line, from the least millimetre that it stands for to the greatest
-- Number 23, `OutOfRange`: line, form or millimetres out of range, or a float below nought, above 4,096 kilometres or not a number.
-- Number 24, `NoMillimetre`: no whole millimetre rounds to it.

abbrev pub keys_on : (line : ℕ) → Result Interval Refused → Result KeyRange Refused
keys_on line (Ok i) = Ok (record { low = key_on line i.low; high = key_on line i.high })
keys_on line (Err e) = Err e

-- A line out of range comes before a float that no millimetre rounds to.
unfoldable pub keys_of : (line : ℕ) → Reading → Result KeyRange Refused
keys_of line r = cond (ltb line lines) (keys_on line (interval_of r)) (Err OutOfRange)

unfoldable pub keys_in : (body : List ℕ) → Result KeyRange Refused
keys_in body =
    cond (eqb (form_in body) millimetre_form) (keys_of (line_in body) (millimetres_in body))
    (cond (eqb (form_in body) kilometre_form) (keys_of (line_in body) (kilometres_in body)) (Err OutOfRange))
