-- The store that kept memory shows: it is sound and fits, and the memory is what is lent of it.
use Prim.Native.Nat.{◌*◌, ◌<◌}
use mathlib.Core.Path.{◌≡◌, sym, ap}
use native.Mathlib.Omega.{arith}
use lib.ListN.{length, length-map}
use Rattle.coding.specs.Number.{Bytes}
use Rattle.table.specs.Limits.{place_size}
use Rattle.table.specs.Table.{table_bytes}
use Rattle.ldc.specs.Store.{size}
use Rattle.ldc.specs.Lent.{Lent, store_of, lent_of}
use Rattle.ldc.proofs.Lent.Shows.{sizes, sound-store_of, whole-store_of, lent_of-store_of}
use Rattle.ldc.proofs.Stores.Sound.{Sound}
use Rattle.ldc.specs.Layout.{card_of, cursor_in, head_size}
use Rattle.ldc.specs.Facts.{Shape}
use Rattle.read.specs.Shown.{Kept}
use Rattle.book_edit.specs.Shown.{Fits, Shows}
use Rattle.book_edit.proofs.Fitting.{fits-sound}
use Rattle.book.specs.Rows.{Wide}

-- What the types of the lent pieces give.
pub shape_of : (m : Lent) → Wide m.cards → length m.head ≡ head_size → length m.memory ≡ place_size → Bytes m.memory → Bytes m.area → Shape m
shape_of m w h l b a = record { rows = w; head = h; memory = l; memory-bytes = b; area-bytes = a }

module _ (m : Lent) (sh : Shape m) (k : Kept m) where
  pub sound-kept : Sound (store_of m)
  sound-kept = sound-store_of m sh k.sizes k.unbroken

  pub fits_kept : Fits (store_of m)
  fits_kept = fits-sound (store_of m) sound-kept (whole-store_of m k.sizes)

  pub lent-kept : lent_of (store_of m) ≡ m
  lent-kept = lent_of-store_of m sh k.sizes k.unbroken

  pub shows_kept : Shows m.area m.cards m.head (store_of m)
  shows_kept = record {
    area = ap (λ (x : Lent). x.area) (sym lent-kept);
    cards = ap (λ (x : Lent). x.cards) (sym lent-kept);
    head = ap (λ (x : Lent). x.head) (sym lent-kept);
  }

  pub lists-kept : m.lists ≡ (lent_of (store_of m)).lists
  lists-kept = ap (λ (x : Lent). x.lists) (sym lent-kept)

  pub memory_kept : m.memory ≡ table_bytes (store_of m).memory
  unfolding lent_of
  memory_kept = ap (λ (x : Lent). x.memory) (sym lent-kept)

  -- As many places as cards, the cursor among them.
  pub area-kept : length m.area ≡ length m.cards * place_size
  area-kept = let z = sizes m k.sizes in omega (arith, z.area, z.cards)

  pub cursor-kept : cursor_in m.head < length m.cards
  unfolding store_of size
  cursor-kept = omega (arith, fits_kept.turns, length-map m.cards card_of)
