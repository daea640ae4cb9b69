-- What backed pieces give: a sound store whose memory they are, legible, with tables where its levels name them.
use Prim.Native.Nat.{ℕ, ◌<◌}
use mathlib.Core.Path.{◌≡◌, refl}
use mathlib.Core.List.{List, Memᴰ}
use lib.ListN.{length}
use Rattle.coding.specs.Number.{Bytes}
use Rattle.ldc.specs.Store.{level, links, card, table, bytes_at}
use Rattle.ldc.specs.Layout.{level_count, head_size, items_in}
use Rattle.ldc.specs.Lent.{Lent, level_of, store_of, lent_of}
use Rattle.ldc.specs.Tidy.{due}
use Rattle.ldc.specs.Place.{free_places}
use Rattle.ldc.proofs.Basics.ListLaws.{get_or-mem}
use Rattle.ldc.proofs.Stores.Sound.{Sound}
use Rattle.ldc.specs.Facts.{Shape}
use Rattle.book.specs.Place.{free_rows}
use Rattle.book.proofs.Free.{count-shown}
use Rattle.book.specs.Pieces.{lent}
use Rattle.read.specs.Shown.{Tabled}
use Rattle.read.specs.Look.{Levels}
use Rattle.read.proofs.Levels.{levels-kept}
use Rattle.compact_pick.specs.Calm.{CalmBut}
use Rattle.compact_pick.proofs.Plans.{listed}
use Rattle.read.proofs.Pieces.{level-items}
use Rattle.book.specs.Rows.{Wide}
use Rattle.book_edit.proofs.Keeping.{shape_of, sound-kept, lent-kept}
use Rattle.compact_install.specs.Merge.{Backed}

module _ (area : List ℕ) (cards : List (List ℕ)) (lists head memory : List ℕ) (w : Wide cards) (ten : length head ≡ head_size)
    (b : Backed (lent area cards lists head memory)) (bytes : Bytes area) where
  abbrev m : Lent
  m = lent area cards lists head memory

  shape : Shape m
  shape = shape_of m w ten b.long b.valued bytes

  pub sound : Sound (store_of m)
  sound = sound-kept m shape b.kept

  pub same : lent_of (store_of m) ≡ m
  same = lent-kept m shape b.kept

  pub levels : Levels area cards lists head
  levels = levels-kept m b.kept b.long b.valued bytes

  -- What a level names is a table.
  pub tabled : (n p : ℕ) → n < level_count → Memᴰ p (level (store_of m) n) → Tabled area p
  tabled n p h x =
      let at = get_or-mem (items_in (length cards) lists head n) 0 (rw (level-items m b.kept n h) at x) in
      rw at.2 at (listed area cards lists head levels n h at.0 at.1)

-- Where merges can be due does not depend on the memory table.
pub calm-beside : (area : List ℕ) (cards : List (List ℕ)) (lists head memory other : List ℕ) (on : ℕ)
    → CalmBut on (store_of (lent area cards lists head memory)) → CalmBut on (store_of (lent area cards lists head other))
unfolding store_of level links card level_of due table bytes_at
calm-beside area cards lists head memory other on c = c

pub free-by : (m : Lent) → free_rows m.cards ≡ free_places (store_of m)
free-by m = count-shown (store_of m) m.cards (unfold store_of in refl)
