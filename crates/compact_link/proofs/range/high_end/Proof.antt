-- `high_end` meets its contract, for the last table and for another.
use mathlib.Core.Path.{sym, ◌∙◌}
use native.Mathlib.Omega.{arith}
use borrow.Author.Rules.{rules}
use Rattle.book.specs.Rows.{shown_by}
use Rattle.compact_link.proofs.Slices.{high-last, high-other}
use Rattle.compact_link.proofs.range.high_end.Statement.{statement}
use Rattle.compact_link.proofs.range.high_end.Tie as tie

add-if1 : tie.Need-overflow_add-i
add-if1 c = search rules

returns : tie.Need-returns-then-i-items
returns c =
    let a = c.args in
    sym (high-last (shown_by a.area.now a.cards.now) a.items.now a.i (omega (arith, c.if-i-items.true)))

mul-span-end : tie.Need-offset_bounds-items-i
mul-span-end c = search rules

shared-slice-read-span-end : tie.Need-bounds-items-i
shared-slice-read-span-end c = search rules

cast-span-end : tie.Need-overflow_cast-items
cast-span-end c = omega (arith, c.shared_slice_known-3-1.given c.args.i)

span-end-requires : tie.Need-span_end-requires
span-end-requires c κs =
    let b = c in
    (b.requires.legible, b.requires.rising.listed b.args.i b.requires.near)

returns-2 : tie.Need-returns
returns-2 c =
    let a = c.args in
    c.span_end.ensures
    ∙ sym (high-other (shown_by a.area.now a.cards.now) a.items.now a.i (λ e. c.if-i-items.false (omega arith)))

pub high_end_spec : {M : Type 1} → statement M
high_end_spec =
    tie.close (tie.spec add-if1 returns mul-span-end shared-slice-read-span-end cast-span-end span-end-requires returns-2)
