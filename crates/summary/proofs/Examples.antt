-- The definitions worked out: three bits of some keys, and the summary of two keys. Each is computed.
use mathlib.Core.Path.{◌≡◌, refl}
use mathlib.Core.Bool.{true, false}
use mathlib.Core.List.{[], ◌∷◌}
use lib.Count.{ones}
use Rattle.coding.specs.Number.{bytes_of, number_at}
use Rattle.table.specs.Table.{zeros}
use Rattle.summary.specs.Bits.{exclusive_bit, sum_bit, weighed_bit, has_bit, with_bit}
use Rattle.summary.specs.Summary.{summary_of, may_hold, bits_set, words_of}

-- A key of one byte has one bit, three times.
five : (exclusive_bit 5 ≡ 5) × (sum_bit 5 ≡ 5) × (weighed_bit 5 ≡ 5)
unfolding exclusive_bit sum_bit weighed_bit bytes_of
five = (refl, refl, refl)

-- Bytes 8, 7, .. 1 from the lowest on: 8 ^ 7 ^ .. ^ 1 is 8, their sum is 36, and 1 * 8 + 2 * 7 + .. + 8 * 1 is 120.
eight : (exclusive_bit 0x0102030405060708 ≡ 8) × (sum_bit 0x0102030405060708 ≡ 36) × (weighed_bit 0x0102030405060708 ≡ 120)
unfolding exclusive_bit sum_bit weighed_bit bytes_of
eight = (refl, refl, refl)

-- The greatest key: the sums are 8 * 255 and 36 * 255, modulo 256.
greatest : (exclusive_bit 0xffffffffffffffff ≡ 0) × (sum_bit 0xffffffffffffffff ≡ 248) × (weighed_bit 0xffffffffffffffff ≡ 220)
unfolding exclusive_bit sum_bit weighed_bit bytes_of
greatest = (refl, refl, refl)

-- Both keys in one summary, as words: bits 5, 8, 36 and 120; key 8, whose bits are all 8, may be there and is not; key 6 is not.
two : words_of (summary_of (5 ∷ 0x0102030405060708 ∷ [])) ≡ 0x1000000120 ∷ 0x100000000000000 ∷ 0 ∷ 0 ∷ []
unfolding summary_of zeros with_bit exclusive_bit sum_bit weighed_bit bytes_of number_at
two = refl

told : (may_hold (summary_of (5 ∷ 0x0102030405060708 ∷ [])) 5 ≡ true)
    × (may_hold (summary_of (5 ∷ 0x0102030405060708 ∷ [])) 8 ≡ true)
    × (may_hold (summary_of (5 ∷ 0x0102030405060708 ∷ [])) 6 ≡ false)
unfolding may_hold has_bit summary_of zeros with_bit exclusive_bit sum_bit weighed_bit bytes_of
told = (refl, refl, refl)

four : bits_set (summary_of (5 ∷ 0x0102030405060708 ∷ [])) ≡ 4
unfolding ones summary_of zeros with_bit exclusive_bit sum_bit weighed_bit bytes_of
four = refl
