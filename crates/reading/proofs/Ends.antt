-- The ends of a reading, for callers: the lower one comes first, both within the 40 bits of a key's distance, and so the keys are on one line.
-- A float's greatest millimetre is a quotient by 2 ^ 7 or more.
use Prim.Native.Nat.{ℕ, ◌+◌, ◌-◌, ◌*◌, ◌/◌, ◌%◌, ◌^◌, ◌≤◌, ◌<◌}
use mathlib.Core.Path.{◌≡◌, refl}
use mathlib.Core.Bool.{Bool, true, false, cond}
use mathlib.Core.List.{List}
use native.Mathlib.Nat.{div-lt_iff_lt-mul}
use native.Mathlib.Omega.{arith}
use borrow.Author.Tests.{ltb-true, leb-true}
use lib.Dec.{ltb, leb, eqb}
use lib.Pow.{pow_pos, pow_mono}
use lib.Ieee.{Float, binary32, to_bits}
use Rattle.coding.specs.Key.{lines, distances}
use Rattle.reading.specs.declared.interval.Reading.{Reading}
use Rattle.reading.specs.declared.interval.Reading.TheVariants.{Millimetres, Kilometres}
use Rattle.std.specs.Prelude.{Result, Ok, Err}
use Rattle.reading.specs.declared.interval.Interval.{Interval}
use Rattle.reading.specs.declared.interval.Refused.{Refused}
use Rattle.reading.specs.declared.interval.Refused.TheVariants.{OutOfRange, NoMillimetre}
use Rattle.reading.specs.declared.body.KeyRange.{KeyRange}
use Rattle.reading.specs.Reading.{farthest, significand, scale, above, least, greatest, between, float_interval, outside, interval_of}
use Rattle.reading.specs.Body.{form_in, line_in, millimetre_form, kilometre_form, millimetres_in, kilometres_in, keys_on, keys_of, keys_in}
use Rattle.reading.proofs.Floats.{significand-lt}
use Rattle.reading.proofs.Range.{let-through-le}

-- ---- of an interval

-- The ends of an interval that has some are in order, and fit their bits.
abbrev Ordered : Result Interval Refused → Type 0
Ordered (Ok i) = (i.low ≤ i.high) × (i.high < distances)
Ordered (Err e) = Unit {0}

quotient : (s j o : ℕ) → s < 16777216 → 7 ≤ 145 - j → ((4 * s + 2) * 15625 - o) / 2 ^ (145 - j) < 2 ^ 40
quotient s j o h k =
    let p : 2 ^ 7 ≤ 2 ^ (145 - j) = pow_mono k in
    let a : (4 * s + 2) * 15625 - o < 2 ^ 40 * 2 ^ (145 - j) = omega arith in
    (div-lt_iff_lt-mul (pow_pos (145 - j))).1 a

greatest-lt : (b : ℕ) → b ≤ farthest → greatest b < distances
unfolding greatest above scale
greatest-lt b h = quotient (significand b) (scale b) (b % 2) (significand-lt b) (omega arith)

one-ordered : (m : ℕ) (t : Bool) → ltb m distances ≡ t → Ordered (cond t (between m m) (Err OutOfRange))
one-ordered m true e = let small : m < distances = ltb-true _ _ e in (omega arith, small)
one-ordered m false e = tt

two-ordered : (low high : ℕ) (t : Bool) → leb low high ≡ t → high < distances → Ordered (cond t (between low high) (Err NoMillimetre))
two-ordered low high true e h = (leb-true _ _ e, h)
two-ordered low high false e h = tt

float-ordered : (x : Float) (t : Bool) → outside x ≡ t → Ordered (cond t (Err OutOfRange) (float_interval (to_bits binary32 x % 2 ^ 31)))
unfolding float_interval
float-ordered x true e = tt
float-ordered x false e =
    let b = to_bits binary32 x % 2 ^ 31 in two-ordered (least b) (greatest b) (leb (least b) (greatest b)) refl (greatest-lt b (let-through-le x e))

ordered : (r : Reading) → Ordered (interval_of r)
unfolding interval_of
ordered (Millimetres m) = one-ordered m (ltb m distances) refl
ordered (Kilometres x) = float-ordered x (outside x) refl

-- The same where they are known.
pub interval-ends : (r : Reading) (i : Interval) → interval_of r ≡ Ok i → (i.low ≤ i.high) × (i.high < distances)
interval-ends r i e = rw e at (ordered r)

-- ---- of keys

-- The keys are in order, fit 64 bits, and are on one line.
abbrev OnOneLine : Result KeyRange Refused → Type 0
OnOneLine (Ok k) =
    (k.low.value ≤ k.high.value) × (k.high.value < 2 ^ 64) × (k.low.value / distances ≡ k.high.value / distances)
OnOneLine (Err e) = Unit {0}

on_line : (line : ℕ) (i : Result Interval Refused) → line < lines → Ordered i → OnOneLine (keys_on line i)
on_line line (Ok i) h o = (omega arith, omega arith, omega arith)
on_line line (Err e) h o = tt

line_of : (line : ℕ) (r : Reading) (t : Bool) → ltb line lines ≡ t → OnOneLine (cond t (keys_on line (interval_of r)) (Err OutOfRange))
line_of line r true e = on_line line (interval_of r) (ltb-true _ _ e) (ordered r)
line_of line r false e = tt

keys-of-ends : (line : ℕ) (r : Reading) → OnOneLine (keys_of line r)
unfolding keys_of
keys-of-ends line r = line_of line r (ltb line lines) refl

by_form : (a b : Bool) (x y : Result KeyRange Refused) → OnOneLine x → OnOneLine y → OnOneLine (cond a x (cond b y (Err OutOfRange)))
by_form true b x y p q = p
by_form false true x y p q = q
by_form false false x y p q = tt

keys-in-ends : (body : List ℕ) → OnOneLine (keys_in body)
unfolding keys_in
keys-in-ends body =
    by_form (eqb (form_in body) millimetre_form) (eqb (form_in body) kilometre_form) (keys_of (line_in body) (millimetres_in body))
    (keys_of (line_in body) (kilometres_in body))
    (keys-of-ends (line_in body) (millimetres_in body))
    (keys-of-ends (line_in body) (kilometres_in body))

-- The same where they are known.
pub keys-ends : (body : List ℕ) (k : KeyRange) → keys_in body ≡ Ok k
    → (k.low.value ≤ k.high.value) × (k.high.value < 2 ^ 64) × (k.low.value / distances ≡ k.high.value / distances)
keys-ends body k e = rw e at (keys-in-ends body)
