-- `is_due` meets its contract: by the link count, or else by what the links weigh against the table's entries.
use mathlib.Core.Path.{◌≡◌, sym, ◌∙◌}
use native.Mathlib.Omega.{arith}
use borrow.Author.Rules.{rules}
use lib.ListN.{length}
use Rattle.table.specs.Table.{entries, place_of}
use Rattle.book.specs.Rows.{links_on}
use Rattle.read.proofs.Shows.{carded, table-some, links-counted}
use Rattle.compact_pick.proofs.Weights.{due-links, due-weight, due-bare}
use Rattle.compact_pick.proofs.due.is_due.Statement.{statement}
use Rattle.compact_pick.proofs.due.is_due.Tie as tie

-- The row says how many links the table has.
counted : (c : tie.After-link_count-n)
    → let a = c.args in length (links_on a.cards.now a.p) ≡ c.link_count-n.result
counted c =
    let s = c in
    let a = s.args in
    links-counted a.area.now a.cards.now s.requires.0 a.p (carded a.area.now a.cards.now s.requires.0 a.p s.requires.1)
    ∙ sym c.link_count-n.ensures

mul-link-count : tie.Need-offset_bounds-cards-p
mul-link-count c = search rules

shared-slice-element-link-count : tie.Need-bounds-cards-p
shared-slice-element-link-count c =
    let a = c.args in
    carded a.area.now a.cards.now c.requires.0 a.p c.requires.1

link-count-requires : tie.Need-link_count-n-requires
link-count-requires c κs = search rules

returns : tie.Need-returns-then-threshold-n
returns c =
    let a = c.args in
    sym (due-links a.threshold (links_on a.cards.now a.p) (entries (place_of a.area.now a.p)) (omega (arith, counted c.before)))

returns-2 : tie.Need-returns-then-n-eq0
returns-2 c =
    let s = c in
    let a = s.args in
    let n = counted c.before.before in
    sym (due-bare a.threshold (links_on a.cards.now a.p) (entries (place_of a.area.now a.p))
    (omega (arith, n)) (omega (arith, n)) (table-some a.area.now a.p s.requires.1))

mul-weighs : tie.Need-offset_bounds-cards-p-2
mul-weighs c = search rules

shared-slice-element-weighs : tie.Need-bounds-cards-p-2
shared-slice-element-weighs c = search rules

count-requires : tie.Need-count-requires
count-requires c κs = search rules

weighs-requires : tie.Need-weighs-requires
weighs-requires c κs = search rules

returns-3 : tie.Need-returns
unfolding links_on
returns-3 c =
    let a = c.args in
    let n = counted c.before.before.before.before in
    c.weighs.ensures
    ∙ rw c.count.ensures (sym (due-weight a.threshold (links_on a.cards.now a.p) (entries (place_of a.area.now a.p)) (omega (arith, n))))

pub is_due_spec : {M : Type 1} → statement M
is_due_spec =
    tie.close (tie.spec mul-link-count shared-slice-element-link-count link-count-requires returns returns-2 mul-weighs
    shared-slice-element-weighs count-requires weighs-requires returns-3)
