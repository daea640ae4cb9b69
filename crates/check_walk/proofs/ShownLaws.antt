-- Cards, tables and links of the store that area and cards show, by the row and the bytes of a place.
use Prim.Native.Nat.{ℕ, ◌/◌, ◌≤◌, ◌<◌}
use mathlib.Core.Path.{◌≡◌, ap}
use mathlib.Core.List.{List, []}
use native.Mathlib.Omega.{arith}
use lib.ListN.{length, get_or, get_or-map, get_or-eq_default}
use Rattle.table.specs.Limits.{place_size}
use Rattle.table.specs.Table.{entries, place_of}
use Rattle.ldc.specs.Store.{free, card, links, links_of, bytes_at, table}
use Rattle.ldc.specs.Lent.{places_in, store_of}
use Rattle.ldc.proofs.Basics.ListLaws.{get_or-parts}
use Rattle.ldc.proofs.Lent.Round.{chop-parts}
use Rattle.ldc.specs.Layout.{card_of, state_of}
use Rattle.book.specs.Rows.{links_on, Sized, shown_by}
use Rattle.book.specs.Row.{links_in}

module _ (area : List ℕ) (cards : List (List ℕ)) where
  pub card-shown : (p : ℕ) → card (shown_by area cards) p ≡ card_of (get_or cards p [])
  unfolding card store_of card_of state_of
  card-shown p = get_or-map card_of cards p []

  pub links-shown : (p : ℕ) → links (shown_by area cards) p ≡ links_on cards p
  unfolding links links_on links_in
  links-shown p = ap links_of (card-shown p)

  -- Beyond the last row cards are free.
  pub card-beyond : (p : ℕ) → length cards ≤ p → card_of (get_or cards p []) ≡ free
  unfolding card_of state_of
  card-beyond p h = rw (get_or-eq_default cards [] {n = p} h)

  module _ (z : Sized area cards) where
    pub bytes-shown : (p : ℕ) → p < length cards → bytes_at (shown_by area cards) p ≡ place_of area p
    unfolding bytes_at store_of places_in
    bytes-shown p h =
        let n : length area / place_size ≡ length cards = omega (arith, z.whole) in
        rw (n, chop-parts) (get_or-parts place_size (length cards) area p h)

    pub table-shown : (p : ℕ) → p < length cards → table (shown_by area cards) p ≡ entries (place_of area p)
    unfolding table
    table-shown p h = ap entries (bytes-shown p h)
