-- A chosen table goes down: it moves or is linked, and both are what the definition serves. Which memory table stands beside the other
-- pieces does not matter to a choice.
use Prim.Native.Nat.{ℕ, suc}
use mathlib.Core.Path.{◌≡◌, refl}
use mathlib.Core.List.{List}
use Rattle.ldc.specs.Lists.{is_empty}
use Rattle.ldc.specs.Store.{level, links, card}
use Rattle.ldc.specs.Lent.{Lent, level_of, store_of, lent_of}
use Rattle.ldc.specs.Tidy.{down_step}
use Rattle.ldc.specs.Steps.{do_step}
use Rattle.ldc.proofs.Basics.Cases.{cases}
use Rattle.ldc.specs.Facts.{Chosen}
use Rattle.book.specs.declared.head.Head.{Head}
use Rattle.book.specs.Pieces.{lent}
use Rattle.compact_link.specs.Down.{step_number}
use Rattle.compact.specs.Tidied.{Does}

pub chosen-beside : (area : List ℕ) (cards : List (List ℕ)) (lists head memory other : List ℕ) (n p : ℕ)
    → Chosen (store_of (lent area cards lists head memory)) n p → Chosen (store_of (lent area cards lists head other)) n p
unfolding store_of level links card level_of
chosen-beside area cards lists head memory other n p c =
    record { highest = c.highest; on = c.on; bare = c.bare; oldest = c.oldest; calm = c.calm }

pub does-down : (m after : Lent) (n p step : ℕ) (head : Head) → step ≡ step_number (down_step (store_of m) n p)
    → after ≡ lent_of (do_step (down_step (store_of m) n p) (store_of m))
    → Does m (down_step (store_of m) n p) after record { result = 0; step = step; level = n; head = head }
unfolding down_step
does-down m after n p step head =
    cases (is_empty (level (store_of m) (suc n)))
    (λ q. rw q (λ e l. record { result = refl; body = rw e; left = l }))
    (λ q. rw q (λ e l. record { result = refl; body = rw e; left = l }))
