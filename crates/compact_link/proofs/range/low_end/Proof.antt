-- `low_end` meets its contract; the previous table is not the last, so one above its end is still a key.
use Prim.Native.Nat.{◌-◌, ◌<◌}
use mathlib.Core.Path.{sym, ◌∙◌}
use native.Mathlib.Omega.{arith}
use borrow.Author.Rules.{rules}
use lib.ListN.{get_or}
use Rattle.coding.specs.Number.{Bytes}
use Rattle.ldc.specs.Store.{span_end}
use Rattle.ldc.specs.Tidy.{greatest}
use Rattle.book.specs.Rows.{shown_by}
use Rattle.read.proofs.Rank.{all-readable, spans}
use Rattle.compact_link.proofs.Slices.{end-room, low_first, low-other}
use Rattle.compact_link.proofs.range.low_end.Statement.{statement}
use Rattle.compact_link.proofs.range.low_end.Tie as tie

returns : tie.Need-returns-then-i-eq0
returns c =
    let a = c.args in
    sym (low_first (shown_by a.area.now a.cards.now) a.from.value a.items.now a.i (omega arith))

sub-span-end : tie.Need-overflow_sub-i
sub-span-end c = search rules

mul-span-end : tie.Need-offset_bounds-items-i
mul-span-end c = search rules

shared-slice-read-span-end : tie.Need-bounds-items-i
shared-slice-read-span-end c = search rules

cast-span-end : tie.Need-overflow_cast-items
cast-span-end c = omega (arith, c.shared_slice_known-3-1.given (c.args.i - 1))

span-end-requires : tie.Need-span_end-end-requires
span-end-requires c κs =
    let b = c in
    (b.requires.legible, b.requires.rising.listed (b.args.i - 1) (omega (arith, b.requires.near)))

room : (c : tie.After-struct_known-1)
    → let a = c.args in
    span_end (shown_by a.area.now a.cards.now) (get_or a.items.now (a.i - 1) 0) < greatest
room c =
    let b = c in
    let a = b.args in
    let bytes : Bytes a.area.now = λ i. omega (arith, c.shared_slice_known-1.given i) in
    end-room (shown_by a.area.now a.cards.now) 0 a.items.now (a.i - 1)
    (all-readable a.area.now a.cards.now a.items.now bytes b.requires.legible b.requires.rising)
    (spans a.area.now a.cards.now a.items.now bytes b.requires.legible b.requires.rising)
    (omega (arith, b.requires.near, c.if-i-eq0.false))

add-t13 : tie.Need-overflow_add-result
add-t13 c = omega (arith, room c, c.span_end-end.ensures)

returns-2 : tie.Need-returns
returns-2 c =
    let a = c.args in
    sym (low-other (shown_by a.area.now a.cards.now) a.from.value a.items.now a.i (omega (arith, c.if-i-eq0.false))
    ∙ omega (arith, c.span_end-end.ensures))

pub low_end_spec : {M : Type 1} → statement M
low_end_spec =
    tie.close (tie.spec returns sub-span-end mul-span-end shared-slice-read-span-end cast-span-end span-end-requires add-t13 returns-2)
