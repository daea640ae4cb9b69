-- `hang_at` meets its contract: the responsible table, its range, how many entries lie in it, and one link more on its row.
use Prim.Native.Nat.{◌<◌}
use mathlib.Core.Path.{refl, ◌∙◌}
use native.Mathlib.Omega.{arith}
use borrow.Author.Rules.{rules}
use lib.ListN.{length}
use Rattle.ldc.specs.Store.{live}
use Rattle.ldc.proofs.Lent.Parts.{count-row_with}
use Rattle.book.specs.Rows.{shown_by}
use Rattle.read.proofs.Shows.{carded}
use Rattle.compact_link.specs.Range.{slice_at, hung_row}
use Rattle.compact_link.proofs.Slices.{keeper-few}
use Rattle.compact_link.proofs.link.hang_at.Statement.{statement}
use Rattle.compact_link.proofs.link.hang_at.Tie as tie

keeper-of-requires : tie.Need-keeper_of-at-requires
keeper-of-requires c κs =
    let b = c in
    record { legible = b.requires.0.legible; rising = b.requires.0.rising; near = omega (arith, b.requires.1.0) }

few : (c : tie.After-keeper_of-at)
    → c.keeper_of-at.result < length c.args.items.now
few c =
    let b = c in
    let a = b.args in
    rw c.keeper_of-at.ensures (keeper-few (shown_by a.area.now a.cards.now) a.key.value a.items.now b.requires.1.0)

low-end-requires : tie.Need-low_end-low-requires
low-end-requires c κs =
    let b = c in
    record { legible = b.requires.0.legible; rising = b.requires.0.rising; near = few c }

high-end-requires : tie.Need-high_end-high-requires
high-end-requires c κs =
    let b = c in
    record { legible = b.requires.0.legible; rising = b.requires.0.rising; near = few c.before }

count-within-requires : tie.Need-count_within-number-requires
count-within-requires c κs = c.requires.1.1

mul-add-link : tie.Need-offset_bounds-items-at
mul-add-link c = omega (arith, few c.before.before.before.before, c.well_formed)

shared-slice-read-add-link : tie.Need-bounds-items-at
shared-slice-read-add-link c = few c.before.before.before.before.before

cast-add-link : tie.Need-overflow_cast-items
cast-add-link c = omega (arith, c.shared_slice_known-3-1.given c.keeper_of-at.result)

add-link-requires : tie.Need-add_link-requires
add-link-requires c κs =
    let k = c in
    let b = k in
    let a = b.args in
    let i = k.keeper_of-at.result in
    let row = b.requires.0.roomy i (few k.before.before.before.before.before) in
    (carded a.area.now a.cards.now b.requires.0.legible _ (b.requires.0.rising.listed i (few k.before.before.before.before.before)), rw (row.shown, count-row_with (live row.held) row.summary) row.room)

same_length : tie.Need-shape_of-cards
same_length c = search rules

returns : tie.Need-returns
unfolding hung_row slice_at
returns c =
    let k = c in
    let low = c in
    let high = c in
    let count = c in
    (k.keeper_of-at.ensures, (high.high_end-high.ensures, c.add_link.ensures ∙ rw (count.count_within-number.ensures, low.low_end-low.ensures, high.high_end-high.ensures) refl))

pub hang_at_spec : {M : Type 1} → statement M
hang_at_spec =
    tie.close (tie.spec keeper-of-requires low-end-requires high-end-requires count-within-requires mul-add-link shared-slice-read-add-link cast-add-link add-link-requires same_length returns)
