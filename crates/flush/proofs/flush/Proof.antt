-- `flush` meets its contract: 65 and 20 as the definition has them, with nothing changed; else one write after the other is lent of the store flushed.
use mathlib.Core.Path.{◌≡◌, refl, sym, ◌∙◌}
use mathlib.Core.Bool.{true}
use Prim.Native.Nat.{◌<◌}
use native.Mathlib.Omega.{arith}
use borrow.Author.Rules.{rules}
use borrow.Author.Tests.{leb-true, not-true, not-false}
use lib.Dec.{leb}
use Rattle.table.specs.Table.{count_of}
use Rattle.ldc.specs.Layout.{most_places}
use Rattle.ldc.specs.Lent.{Lent}
use Rattle.ldc.specs.Facts.{Shape}
use Rattle.book.specs.Head.{head_words}
use Rattle.book.specs.Place.{free_rows}
use Rattle.book.specs.Pieces.{lent}
use Rattle.read.specs.Shown.{Kept}
use Rattle.book_edit.proofs.Keeping.{shape_of, area-kept, cursor-kept}
use Rattle.flush.proofs.Flushing.{flush-empty, flush-full, flush-place, flush-listing, flush-done}
use Rattle.ldc.proofs.Lent.Rules.{unbroken}
use Rattle.flush.proofs.flush.Statement.{statement}
use Rattle.flush.proofs.flush.Tie as tie

-- The memory as it was lent, what its types give, and that it is kept.
abbrev found : tie.After-slice_known-3-1 → Lent
found c =
    let a = c.args in
    lent a.area.now a.cards.now a.lists.now (head_words a.head) a.memory.now

shape : (c : tie.After-slice_known-3-1) → Shape (found c)
shape c =
    let b = c in
    shape_of (found c) b.requires.wide refl b.requires.memory (λ i. omega (arith, c.slice_known-3-1.given i)) (λ i. omega (arith, c.slice_known-1.given i))

kept : (c : tie.After-slice_known-3-1) → Kept (found c)
kept c = c.requires.kept

count-requires : tie.Need-count-requires
count-requires c κs = search rules

same_length : tie.Need-shape_of-memory-then-count-eq0
same_length c = search rules

returns : tie.Need-returns-then-count-eq0
returns c =
    let k = c in
    flush-empty (found k.before.before) (shape k.before.before) (kept k.before.before) (sym c.count.ensures ∙ c.if-count-eq0.true)

free-at-least-requires : tie.Need-free_at_least-requires
free-at-least-requires c κs = search rules

same-length-2 : tie.Need-shape_of-cards-then-not-free_at_least
same-length-2 c = search rules

same-length-3 : tie.Need-shape_of-memory-then-not-free_at_least
same-length-3 c = search rules

-- The memory is not empty, and a place is free or not.
some : (c : tie.Else-count-eq0) → count_of (found c.before.before).memory ≡ 0 → ⊥
some c e = c.if-count-eq0.false (c.count.ensures ∙ e)

returns-2 : tie.Need-returns-then-not-free_at_least
returns-2 c =
    let e = c in
    let k = e in
    flush-full (found k.before.before.before.before) (shape k.before.before.before.before) (kept k.before.before.before.before) (some e.before.before) (sym c.free_at_least.ensures ∙ c.if-not-free_at_least.true)

room : (c : tie.Else-not-free_at_least) → leb 1 (free_rows (found c.before.before.before.before).cards) ≡ true
room c = sym c.free_at_least.ensures ∙ c.if-not-free_at_least.false

write-table-requires : tie.Need-write_table-taken-requires
write-table-requires c κs =
    let e = c in
    let k = e in (
      area-kept (found k.before.before.before.before.before.before) (shape k.before.before.before.before.before.before) (kept k.before.before.before.before.before.before),
      (
        (k.requires.memory, (unbroken (found k.before.before.before.before.before.before) (kept k.before.before.before.before.before.before).unbroken).memory),
        (cursor-kept (found k.before.before.before.before.before.before) (shape k.before.before.before.before.before.before) (kept k.before.before.before.before.before.before), leb-true 1 (free_rows (found k.before.before.before.before.before.before).cards) (room e.before.before)),
      ),
    )

-- What a law says of the table written.
below : (c : tie.After-write_table-taken) → c.write_table-taken.result.place < most_places
below c =
    let e = c in
    let l = e in
    let k = l in
    flush-place (found k.before.before.before.before.before.before.before) (shape k.before.before.before.before.before.before.before) (kept k.before.before.before.before.before.before.before) (some l.before.before.before.before.before) c.write_table-taken.new.area c.write_table-taken.new.cards (head_words c.write_table-taken.result.head)
    c.write_table-taken.result.place (room e.before.before.before) c.write_table-taken.ensures.0 c.write_table-taken.ensures.1

cast-join : tie.Need-overflow_cast-taken
cast-join c = omega (arith, below c.before.before.before.before.before.before)

join-requires : tie.Need-join-joined-requires
join-requires c κs =
    let w = c in
    let e = w in
    let l = e in
    let k = l in
    flush-listing (found k.before.before.before.before.before.before.before.before.before.before.before.before.before) (shape k.before.before.before.before.before.before.before.before.before.before.before.before.before) (kept k.before.before.before.before.before.before.before.before.before.before.before.before.before) (some l.before.before.before.before.before.before.before.before.before.before.before) w.write_table-taken.new.area w.write_table-taken.new.cards (head_words w.write_table-taken.result.head)
    w.write_table-taken.result.place (room e.before.before.before.before.before.before.before.before.before) w.write_table-taken.ensures.0 w.write_table-taken.ensures.1

clear-requires : tie.Need-clear-requires
clear-requires c κs =
    let w = c in
    w.requires.memory

same-length-4 : tie.Need-shape_of-area
same-length-4 c = search rules

same-length-5 : tie.Need-shape_of-cards
same-length-5 c = search rules

same-length-6 : tie.Need-shape_of-lists
same-length-6 c = search rules

same-length-7 : tie.Need-shape_of-memory
same-length-7 c = search rules

returns-3 : tie.Need-returns
returns-3 c =
    let j = c in
    let w = j in
    let e = w in
    let l = e in
    let k = l in
    flush-done (found k.before.before.before.before.before.before.before.before.before.before.before.before.before.before.before.before.before.before.before.before) (shape k.before.before.before.before.before.before.before.before.before.before.before.before.before.before.before.before.before.before.before.before) (kept k.before.before.before.before.before.before.before.before.before.before.before.before.before.before.before.before.before.before.before.before) (some l.before.before.before.before.before.before.before.before.before.before.before.before.before.before.before.before.before.before) w.write_table-taken.new.area w.write_table-taken.new.cards (head_words w.write_table-taken.result.head)
    w.write_table-taken.result.place (room e.before.before.before.before.before.before.before.before.before.before.before.before.before.before.before.before) w.write_table-taken.ensures.0 w.write_table-taken.ensures.1
    j.join-joined.new.lists (head_words j.join-joined.result) c.clear.new.s
    j.join-joined.ensures.0 j.join-joined.ensures.1 c.clear.ensures

pub flush_spec : {M : Type 1} → statement M
flush_spec =
    tie.close (tie.spec count-requires same_length returns free-at-least-requires same-length-2 same-length-3 returns-2 write-table-requires cast-join join-requires clear-requires same-length-4 same-length-5 same-length-6 same-length-7 returns-3)
