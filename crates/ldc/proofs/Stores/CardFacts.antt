-- Free, live and frozen exclude each other, and only live cards hold links.
use mathlib.Core.Path.{◌≡◌, refl}
use mathlib.Core.List.{[]}
use mathlib.Core.Bool.{true, false}
use Rattle.ldc.specs.Store.{Card, free, live, frozen, is_free, is_live, is_frozen, links_of}
use Rattle.ldc.proofs.Basics.Cases.{clash}

pub live-not-free : (c : Card) → is_live c ≡ true → is_free c ≡ false
live-not-free free h = clash h refl
live-not-free (live ls) h = refl
live-not-free frozen h = refl

pub frozen-not-free : (c : Card) → is_frozen c ≡ true → is_free c ≡ false
frozen-not-free free h = clash h refl
frozen-not-free (live ls) h = refl
frozen-not-free frozen h = refl

pub frozen-not-live : (c : Card) → is_frozen c ≡ true → is_live c ≡ false
frozen-not-live free h = clash h refl
frozen-not-live (live ls) h = clash h refl
frozen-not-live frozen h = refl

pub live-not-frozen : (c : Card) → is_live c ≡ true → is_frozen c ≡ false
live-not-frozen free h = refl
live-not-frozen (live ls) h = refl
live-not-frozen frozen h = clash h refl

pub free-not-live : (c : Card) → is_free c ≡ true → is_live c ≡ false
free-not-live free h = refl
free-not-live (live ls) h = clash h refl
free-not-live frozen h = refl

pub free-not-frozen : (c : Card) → is_free c ≡ true → is_frozen c ≡ false
free-not-frozen free h = refl
free-not-frozen (live ls) h = refl
free-not-frozen frozen h = clash h refl

-- only live cards hold links
pub no-links : (c : Card) → is_live c ≡ false → links_of c ≡ []
no-links free h = refl
no-links (live ls) h = clash refl h
no-links frozen h = refl

pub live-links : (c : Card) → is_live c ≡ true → c ≡ live (links_of c)
live-links free h = clash h refl
live-links (live ls) h = refl
live-links frozen h = clash h refl

pub frozen-card : (c : Card) → is_frozen c ≡ true → c ≡ frozen
frozen-card free h = clash h refl
frozen-card (live ls) h = clash h refl
frozen-card frozen h = refl
