-- Taking places and writing tables to them; flush.
use Rattle.std.specs.Prelude.{ℕ, zero, suc, List, [], ◌∷◌, ◌++◌, cond, eqb}
use Rattle.std.proofs.Math.Option.{Option, some, none, get_or}
use Rattle.table.specs.Entry.{Entry}
use Rattle.table.specs.Table.{table_bytes}
use Rattle.ldc.specs.Lists.{how_many, is_empty}
use Rattle.ldc.specs.Store.{Store, live, size, card, is_free, level, with_card, with_level, with_memory, with_place, with_cursor}
use Rattle.ldc.specs.Request.{Served, no_room, nothing_to_do, done, only}

-- The place after this one, 0 after the last.
unfoldable pub next_place : (size p : ℕ) → ℕ
next_place size p = cond (eqb (suc p) size) 0 (suc p)

-- The first free one of n places counting up from p, going round.
abbrev pub free_from : (n : ℕ) → Store → (p : ℕ) → Option ℕ
free_from zero s p = none
free_from (suc n) s p = cond (is_free (card s p)) (some p) (free_from n s (next_place (size s) p))

-- The place taken: the first free one from the cursor. (Where none is free no place is taken; 0 stands for it.)
unfoldable pub place_taken : Store → ℕ
place_taken s = get_or (free_from (size s) s s.cursor) 0

-- A table of these entries is written to the place taken; the cursor becomes the place after it.
unfoldable pub written : List Entry → Store → Store
written es s =
    with_place (place_taken s) (table_bytes es)
    (with_card (place_taken s) (live [])
    (with_cursor (next_place (size s) (place_taken s)) s))

-- Several tables, one after the other, and the places that they take.
abbrev pub written_all : List (List Entry) → Store → Store
written_all [] s = s
written_all (t ∷ ts) s = written_all ts (written t s)

abbrev pub places_taken : List (List Entry) → Store → List ℕ
places_taken [] s = []
places_taken (t ∷ ts) s = place_taken s ∷ places_taken ts (written t s)

unfoldable pub free_places : Store → ℕ
free_places s = how_many is_free s.cards

-- Flush: the memory table, newest on level 0, and the memory emptied.
unfoldable pub flushed : Store → Store
flushed s = with_memory [] (with_level 0 (level s 0 ++ (place_taken s ∷ [])) (written s.memory s))

-- 65 for an empty memory, 20 with no place free.
unfoldable pub serve_flush : Store → Served
serve_flush s =
    cond (is_empty s.memory) (only nothing_to_do s)
    (cond (eqb (free_places s) 0) (only no_room s) (done (flushed s) []))
