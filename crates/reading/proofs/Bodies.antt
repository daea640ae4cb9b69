-- The body of a request, for the code that reads it: its length by its form, a law for each way out; and how long a body of good length is.
use Prim.Native.Nat.{ℕ, zero, suc, ◌≤◌, ◌<◌}
use mathlib.Core.Path.{◌≡◌, refl, sym, ◌∙◌}
use mathlib.Core.Logic.{◌⊎◌, inl, inr}
use mathlib.Core.Bool.{Bool, true, false, cond, not, false≢true}
use mathlib.Core.List.{List}
use native.Mathlib.Omega.{arith}
use borrow.Author.Tests.{eqb-true, eqb-false, eq-eqb, ne_eqb, lt-ltb, le-ltb}
use lib.Dec.{eqb, eqb-suc-zero}
use lib.ListN.{length}
use Rattle.coding.specs.Key.{lines}
use Rattle.reading.specs.declared.interval.Reading.{Reading}
use Rattle.std.specs.Prelude.{Result, Err}
use Rattle.reading.specs.declared.interval.Interval.{Interval}
use Rattle.reading.specs.declared.interval.Refused.{Refused}
use Rattle.reading.specs.declared.interval.Refused.TheVariants.{OutOfRange}
use Rattle.reading.specs.Reading.{interval_of}
use Rattle.reading.specs.Body.{form_in, line_in, millimetre_form, kilometre_form, millimetre_length, kilometre_length}
use Rattle.reading.specs.Body.{millimetres_in, kilometres_in, length_good, keys_on, keys_of, keys_in}

-- ---- number 17, by the length

not_is : (t : Bool) → not t ≡ cond t false true
not_is true = refl
not_is false = refl

always : (t u : Bool) → cond t u u ≡ u
always true u = refl
always false u = refl

long-form : (form : ℕ) → not (eqb form kilometre_form) ≡ cond (eqb form millimetre_form) true (cond (eqb form kilometre_form) false true)
long-form zero = refl
long-form (suc f) = rw (eqb-suc-zero f) (not_is (eqb (suc f) kilometre_form))

short-form : (form : ℕ) → not (eqb form millimetre_form) ≡ cond (eqb form millimetre_form) false (cond (eqb form kilometre_form) true true)
short-form zero = refl
short-form (suc f) = rw (eqb-suc-zero f) (sym (always (eqb (suc f) kilometre_form) true))

module _ (body : List ℕ) where
  pub long : length body ≡ millimetre_length → not (eqb (form_in body) kilometre_form) ≡ length_good body
  unfolding length_good
  long e = rw e (long-form (form_in body))

  pub short : length body ≡ kilometre_length → not (eqb (form_in body) millimetre_form) ≡ length_good body
  unfolding length_good
  short e = rw e (short-form (form_in body))

  pub neither : (length body ≡ millimetre_length → ⊥) → (length body ≡ kilometre_length → ⊥) → false ≡ length_good body
  unfolding length_good
  neither m n =
      rw (ne_eqb (length body) millimetre_length m, ne_eqb (length body) kilometre_length n, always (eqb (form_in body) kilometre_form) false)
      (sym (always (eqb (form_in body) millimetre_form) false))

  -- ---- what a good length says

  -- A body of good length has 14 bytes or 10.
  pub good_length : length_good body ≡ true → (length body ≡ millimetre_length) ⊎ (length body ≡ kilometre_length)
  good_length h = go (eqb (length body) millimetre_length) (eqb (length body) kilometre_length) refl refl
    where
      go : (s t : Bool) → eqb (length body) millimetre_length ≡ s → eqb (length body) kilometre_length ≡ t
          → (length body ≡ millimetre_length) ⊎ (length body ≡ kilometre_length)
      go true t p q = inl (eqb-true _ _ p)
      go false true p q = inr (eqb-true _ _ q)
      go false false p q = absurd (false≢true (neither (eqb-false _ _ p) (eqb-false _ _ q) ∙ h))

  pub good-reach : length_good body ≡ true → 10 ≤ length body
  good-reach h = elim (good_length h) [ inl e ↦ omega arith | inr e ↦ omega arith ]

  -- One in millimetres has 14.
  pub millimetres-reach : length_good body ≡ true → form_in body ≡ millimetre_form → 14 ≤ length body
  unfolding length_good
  millimetres-reach h e =
      let whole : length body ≡ 14 = eqb-true _ _ (rw (eq-eqb (form_in body) millimetre_form e) at h) in
      omega arith

-- ---- the keys, by form

module _ (body : List ℕ) where
  pub in-millimetres : form_in body ≡ millimetre_form → keys_of (line_in body) (millimetres_in body) ≡ keys_in body
  unfolding keys_in
  in-millimetres e = rw (eq-eqb (form_in body) millimetre_form e)

  pub in-kilometres : form_in body ≡ kilometre_form → keys_of (line_in body) (kilometres_in body) ≡ keys_in body
  unfolding keys_in
  in-kilometres e = rw (eq-eqb (form_in body) kilometre_form e, ne_eqb (form_in body) millimetre_form (omega arith))

  pub in-no-form : 2 ≤ form_in body → Err OutOfRange ≡ keys_in body
  unfolding keys_in
  in-no-form h = rw (ne_eqb (form_in body) millimetre_form (omega arith), ne_eqb (form_in body) kilometre_form (omega arith))

-- ---- the keys of a reading, by its line and interval

module _ (line : ℕ) (r : Reading) where
  pub no_line : lines ≤ line → Err OutOfRange ≡ keys_of line r
  unfolding keys_of
  no_line h = rw (le-ltb line lines h)

  pub on-a-line : line < lines → (i : Result Interval Refused) → i ≡ interval_of r → keys_on line i ≡ keys_of line r
  unfolding keys_of
  on-a-line h i e = rw (lt-ltb line lines h, e)
