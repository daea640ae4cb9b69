-- One turn of the loops that count: what is left of a definition, after a row.
use Prim.Native.Nat.{ℕ, ◌+◌, ◌≤◌, ◌<◌}
use mathlib.Core.Path.{◌≡◌, refl}
use mathlib.Core.Bool.{Bool, true, false, cond}
use mathlib.Core.List.{List, []}
use native.Mathlib.Omega.{arith}
use native.Mathlib.Numerals.{add-one}
use lib.ListN.{length, get_or, drop, drop_of_length-le}
use Rattle.std.specs.Int.{from_bool}
use lib.Seq.{drop-cons}
use Rattle.table.proofs.Tests.{cases}
use Rattle.ldc.specs.Lists.{how_many}
use Rattle.ldc.specs.Store.{is_free, is_frozen}
use Rattle.ldc.specs.Layout.{card_of, link_count}
use Rattle.serve_read.specs.Tally.{free_in, frozen_in, links_counted}

-- How many of the rows from i on pass a test.
how-turn : (test : List ℕ → Bool) (rows : List (List ℕ)) (i : ℕ) → i < length rows
    → how_many test (drop i rows) ≡ cond (test (get_or rows i [])) 1 0 + how_many test (drop (i + 1) rows)
how-turn test rows i h =
    rw (add-one i, drop-cons rows i [] h)
    (cases (test (get_or rows i [])) (λ q. rw q (omega arith)) (λ q. rw q (omega arith)))

module _ (rows : List (List ℕ)) (i : ℕ) where
  pub free-turn : i < length rows → free_in (drop i rows) ≡ cond (is_free (card_of (get_or rows i []))) 1 0 + free_in (drop (i + 1) rows)
  unfolding free_in
  free-turn h = how-turn (λ row. is_free (card_of row)) rows i h

  pub frozen-turn : i < length rows → frozen_in (drop i rows) ≡ cond (is_frozen (card_of (get_or rows i []))) 1 0 + frozen_in (drop (i + 1) rows)
  unfolding frozen_in
  frozen-turn h = how-turn (λ row. is_frozen (card_of row)) rows i h

  pub links-turn : i < length rows → links_counted (drop i rows) ≡ link_count (get_or rows i []) + links_counted (drop (i + 1) rows)
  unfolding links_counted
  links-turn h = rw (add-one i, drop-cons rows i [] h)

  -- No row more.
  pub tally-end : length rows ≤ i → (free_in (drop i rows) ≡ 0) × (frozen_in (drop i rows) ≡ 0) × (links_counted (drop i rows) ≡ 0)
  unfolding free_in frozen_in links_counted
  tally-end h = let e : drop i rows ≡ [] = drop_of_length-le rows {i = i} h in (rw e, rw e, rw e)

-- A test as a number: one if so, and else nought, and so at most one.
pub one-if : (b : Bool) → from_bool b ≡ cond b 1 0
one-if true = refl
one-if false = refl

pub one-few : (b : Bool) → cond b 1 0 ≤ 1
one-few true = omega arith
one-few false = omega arith
