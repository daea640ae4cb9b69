-- All that is read, source by source, and up to which key it is of interest.
use Rattle.std.specs.Prelude.{ℕ, zero, suc, ◌-◌, min, List, [], ◌++◌, map, cond, ltb, length, get_or}
use Rattle.table.specs.Entry.{Entry}
use Rattle.ldc.specs.Lists.{flat}
use Rattle.ldc.specs.Store.{Store, sources}
use Rattle.ldc.specs.Layout.{items_in}
use Rattle.book.specs.Head.{head_words}
use Rattle.book.specs.Pieces.{Words, Rows, MutWords}
use Rattle.book.specs.Rows.{shown_by}
use Rattle.book.specs.declared.head.Head.{Head}
use Rattle.read_gather.specs.Sources.{TakenAll}

-- Up to which key a range is of interest, where n keys are in use: where there is no room for more, up to the last of them.
unfoldable pub up_to : (keys : List ℕ) → (n high : ℕ) → ℕ
up_to keys n high = cond (ltb n (length keys)) high (min high (get_or keys (n - 1) 0))

-- What is read of some tables of a level below.
abbrev pub sources_of : Store → (places : List ℕ) → List (List Entry)
sources_of s ps = flat (map (sources s) ps)

-- What is read of so many levels from one on.
unfoldable pub levels_from : (area : List ℕ) → (cards : List (List ℕ)) → (lists head : List ℕ) → (count level : ℕ) → List (List Entry)
levels_from area cards lists head zero n = []
levels_from area cards lists head (suc c) n =
    sources_of (shown_by area cards) (items_in (length cards) lists head n) ++ levels_from area cards lists head c (suc n)

-- ---- over the parameters of a call, the arrays at its entry and at its exit

-- Of levels 1 to 3.
abbrev pub lower_of : (area : Words) → (cards : Rows) → (lists : Words) → Head → List (List Entry)
lower_of area cards lists head = levels_from area.entry.now cards.entry.now lists.entry.now (head_words head) 3 1

-- Sources were taken in that stand in the area and, behind it, in the memory table.
abbrev pub TakenBoth : (area memory : Words) → (sources : List (List Entry)) → (keys spots : MutWords) → (n r : ℕ) → Type 0
TakenBoth area memory sources keys spots n r =
    TakenAll (area.entry.now ++ memory.entry.now) sources keys.entry.now spots.entry.now n keys.exit.now spots.exit.now r
