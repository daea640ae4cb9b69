-- Going by cases with the equation in hand, and what a conjunction of tests says.
use mathlib.Core.Path.{◌≡◌, refl, sym, ◌∙◌}
use mathlib.Core.Bool.{Bool, true, false, not, ◌&&◌, ◌||◌, true≢false, false≢true}
use mathlib.Core.Option.{Option, some, none}

module _ {ℓ} {P : Type ℓ} where
  pub cases : (b : Bool) → (b ≡ true → P) → (b ≡ false → P) → P
  cases true yes' no' = yes' refl
  cases false yes' no' = no' refl

  -- The same on what may be missing.
  pub maybe {κ} : {A : Type κ} (o : Option A) → (o ≡ none → P) → ((a : A) → o ≡ some a → P) → P
  maybe none n s = n refl
  maybe (some a) n s = s a refl

  -- True is not false.
  pub clash : {b : Bool} → b ≡ true → b ≡ false → P
  clash p q = absurd (true≢false (sym p ∙ q))

pub both_left : (a b : Bool) → (a && b) ≡ true → a ≡ true
both_left true b h = refl
both_left false b h = absurd (false≢true h)

pub both_right : (a b : Bool) → (a && b) ≡ true → b ≡ true
both_right true b h = h
both_right false b h = absurd (false≢true h)

pub both : (a b : Bool) → a ≡ true → b ≡ true → (a && b) ≡ true
both a b p q = rw (p, q)

pub not-both : (a b : Bool) → a ≡ true → (a && b) ≡ false → b ≡ false
not-both true b p h = h
not-both false b p h = absurd (false≢true p)

pub either_left : (a b : Bool) → a ≡ true → (a || b) ≡ true
either_left a b p = rw p

pub either-right : (a b : Bool) → b ≡ true → (a || b) ≡ true
either-right true b p = refl
either-right false b p = p

pub neither_left : (a b : Bool) → (a || b) ≡ false → a ≡ false
neither_left true b h = absurd (true≢false h)
neither_left false b h = refl

pub neither_right : (a b : Bool) → (a || b) ≡ false → b ≡ false
neither_right true b h = absurd (true≢false h)
neither_right false b h = h

pub negated : (a : Bool) → not a ≡ true → a ≡ false
negated true h = absurd (false≢true h)
negated false h = refl
