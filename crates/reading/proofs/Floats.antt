-- A float that is finite and not negative, by its bits: it is `significand b * 2 ^ scale b` units of 2 ^ -149, and a fraction rounds to it
-- exactly where `lib.Ieee.Scale.grid` is that number of units: floats that fit the format and have one value are one float.
use Prim.Native.Nat.{ℕ, zero, suc, ◌+◌, ◌-◌, ◌*◌, ◌/◌, ◌%◌, ◌^◌, ◌≤◌, ◌<◌}
use mathlib.Core.Path.{◌≡◌, refl, sym, ◌∙◌, ap, subst}
use mathlib.Core.Bool.{Bool, true, false, not, cond, true≢false, false≢true}
use native.Mathlib.Nat.{lt_of_lt_of_le, mod-eq_of_lt, mul-div_cancel, eq_of_mul-eq-mul_right}
use native.Mathlib.Omega.{arith}
use lib.Dec.{T, eqb, eqb-suc-zero}
use lib.Pow.{pow_mono, shl_lt}
use lib.Ieee.{Float, nan, inf, fin, Format, binary32, prec, low, down, size, round, fits, of_fields, of_bits, to_bits, is_nan, nan_bits, div}
use lib.Ieee.Fits.{down_pos, round-fits}
use lib.Ieee.Bits.{of_bits-to_bits, of_bits-fits, nan_bits_is, nan_bits_above}
use lib.Ieee.Exact.{HasValue, odd_sign}
use lib.Ieee.Scale.{grid, overflow, finite, round_val, round_under}
use borrow.Author.Tests.{lt-ltb, le-ltb, lt-leb, ne_eqb}
use Rattle.reading.specs.Reading.{significand, scale, exponent, fraction}

-- ---- what a value tells of a float

value-finite : (x : Float) (a c : ℕ) → HasValue x false a c → T (finite x)
value-finite nan a c h = absurd h
value-finite (inf s) a c h = absurd h
value-finite (fin s m e) a c h = tt

value-one : (x : Float) (a b c : ℕ) → HasValue x false a c → HasValue x false b c → a ≡ b
value-one nan a b c h k = absurd h
value-one (inf s) a b c h k = absurd h
value-one (fin s m e) a b c h k = eq_of_mul-eq-mul_right (down e) (down_pos e) a b (sym h.1 ∙ k.1)

-- the bits of a value of so many units
bits_of_value : (f : Format) (x : Float) (a : ℕ) → HasValue x false a (2 ^ low f)
    → to_bits f x ≡ 0 + (size a - prec f) * 2 ^ (prec f - 1) + a / 2 ^ (size a - prec f)
unfolding to_bits
bits_of_value f nan a h = absurd h
bits_of_value f (inf s) a h = absurd h
bits_of_value f (fin true m e) a h = absurd (true≢false h.0)
bits_of_value f (fin false m e) a h =
    ap (λ n. 0 + (size n - prec f) * 2 ^ (prec f - 1) + n / 2 ^ (size n - prec f))
    (ap (λ y. y / down e) h.1 ∙ mul-div_cancel a (down_pos e))

-- one value is one float
value-unique : (f : Format) (x y : Float) (a : ℕ) → T (fits f x) → T (fits f y) → HasValue x false a (2 ^ low f)
    → HasValue y false a (2 ^ low f) → x ≡ y
value-unique f x y a p q h k =
    sym (of_bits-to_bits f x p) ∙ ap (of_bits f) (bits_of_value f x a h ∙ sym (bits_of_value f y a k)) ∙ of_bits-to_bits f y q

-- ---- the value of a float's bits

fields : (x t : ℕ) → x < 255 → HasValue (of_fields binary32 false x t) false (cond (eqb x 0) t (2 ^ 23 + t) * 2 ^ (x - 1)) (2 ^ 149)
unfolding of_fields
fields zero t h = odd_sign 24 false t 0 149
fields (suc x) t h =
    let a : suc x - 1 ≡ x = omega arith in
    rw (ne_eqb (suc x) 255 (omega arith), eqb-suc-zero x, a) (odd_sign 24 false (8388608 + t) x 149)

of-fields : (b : ℕ) → b < 2147483648 → of_bits binary32 b ≡ of_fields binary32 false (b / 2 ^ 23) (b % 2 ^ 23)
unfolding of_bits
of-fields b h = rw (lt-leb 2147483648 b h, mod-eq_of_lt h)

-- the units of a float by its bits
abbrev pub units : (b : ℕ) → ℕ
units b = significand b * 2 ^ scale b

pub bits-value : (b : ℕ) → b < 2139095040 → HasValue (of_bits binary32 b) false (units b) (2 ^ 149)
unfolding significand scale
bits-value b h = rw (of-fields b (omega arith)) (fields (b / 2 ^ 23) (b % 2 ^ 23) (omega arith))

pub significand-lt : (b : ℕ) → significand b < 2 ^ 24
unfolding significand
significand-lt b = go (eqb (exponent b) 0)
  where
    go : (t : Bool) → cond t (fraction b) (2 ^ 23 + fraction b) < 2 ^ 24
    go true = omega arith
    go false = omega arith

scale-le : (b : ℕ) → b < 2139095040 → 24 + scale b ≤ 277
unfolding scale
scale-le b h = omega arith

units_lt : (b : ℕ) → b < 2139095040 → units b < overflow binary32
units_lt b h = lt_of_lt_of_le (shl_lt 24 (scale b) (significand-lt b)) (pow_mono (scale-le b h))

-- ---- a fraction rounds to the float of b exactly where it has as many units

pub round-units : (m d b : ℕ) → b < 2139095040 → round binary32 false m d ≡ of_bits binary32 b → grid binary32 m d ≡ units b
round-units m d b h e =
    let v = bits-value b h in
    let f : T (finite (round binary32 false m d)) =
    subst (λ x. T (finite x)) (sym e) (value-finite (of_bits binary32 b) (units b) (2 ^ 149) v) in
    let r = round_val binary32 m d (round_under binary32 m d f) in
    value-one (of_bits binary32 b) (grid binary32 m d) (units b) (2 ^ 149) (subst (λ x. HasValue x false (grid binary32 m d) (2 ^ 149)) e r) v

pub units-round : (m d b : ℕ) → b < 2139095040 → grid binary32 m d ≡ units b → round binary32 false m d ≡ of_bits binary32 b
units-round m d b h e =
    let v : HasValue (round binary32 false m d) false (grid binary32 m d) (2 ^ 149) =
    round_val binary32 m d (subst (λ n. n < overflow binary32) (sym e) (units_lt b h)) in
    value-unique binary32 (round binary32 false m d) (of_bits binary32 b) (units b) (round-fits binary32 false m d) (of_bits-fits binary32 b)
    (subst (λ n. HasValue (round binary32 false m d) false n (2 ^ 149)) e v) (bits-value b h)

-- ---- bits that are not a number

nan-only : (x : Float) → is_nan x ≡ true → x ≡ nan
unfolding is_nan
nan-only nan e = refl
nan-only (inf s) e = absurd (false≢true e)
nan-only (fin s m k) e = absurd (false≢true e)

-- with the sign's bit taken off they are those above the infinity's
pub nan-of : (n : ℕ) → 2139095040 < n % 2147483648 → of_bits binary32 n ≡ nan
nan-of n h = nan-only (of_bits binary32 n) (sym (nan_bits_is binary32 n) ∙ nan_bits_above binary32 n ∙ lt-ltb 2139095040 (n % 2147483648) h)

pub nan-free : (n : ℕ) → n % 2147483648 ≤ 2139095040 → T (not (nan_bits binary32 n))
nan-free n h = rw (nan_bits_above binary32 n, le-ltb 2139095040 (n % 2147483648) h) tt

-- zero divided by zero is not a number
pub nan-made : div binary32 (of_bits binary32 0) (of_bits binary32 0) ≡ nan
unfolding div of_bits
nan-made = refl
