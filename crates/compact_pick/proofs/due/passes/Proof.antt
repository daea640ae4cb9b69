-- `passes` meets its contract: by the cases of what is wanted.
use mathlib.Core.Path.{sym, ◌∙◌, ap}
use borrow.Author.Rules.{rules}
use lib.Dec.{eqb}
use Rattle.book.specs.Rows.{links_on}
use Rattle.read.proofs.Shows.{carded, links-counted}
use Rattle.compact_pick.specs.Due.{passes_by}
use Rattle.compact_pick.proofs.Weights.{empty-count}
use Rattle.compact_pick.proofs.due.passes.Statement.{statement}
use Rattle.compact_pick.proofs.due.passes.Tie as tie

enum-known-wanted : tie.Need-enum_known-wanted
enum-known-wanted c = search rules

is-due-requires : tie.Need-is_due-requires
is-due-requires c κs = search rules

enum_told : tie.Need-enum_told-1
enum_told c = search rules

mul-link-count : tie.Need-offset_bounds-cards-p
mul-link-count c = search rules

shared-slice-element-link-count : tie.Need-bounds-cards-p
shared-slice-element-link-count c =
    let s = c in
    let a = s.args in
    carded a.area.now a.cards.now s.requires.0 a.p s.requires.1

link-count-requires : tie.Need-link_count-requires
link-count-requires c κs = search rules

returns : tie.Need-returns-in-DueBy
unfolding passes_by
returns c = rw c.in-DueBy.is c.is_due.ensures

returns-2 : tie.Need-returns-in-Bare
unfolding passes_by
returns-2 c =
    let s = c in
    let a = s.args in
    let n = links-counted a.area.now a.cards.now s.requires.0 a.p (carded a.area.now a.cards.now s.requires.0 a.p s.requires.1) in
    rw c.in-Bare.is (ap (λ k. eqb k 0) (c.link_count.ensures ∙ sym n) ∙ empty-count (links_on a.cards.now a.p))

pub passes_spec : {M : Type 1} → statement M
passes_spec =
    tie.close (tie.spec enum-known-wanted is-due-requires enum_told mul-link-count shared-slice-element-link-count link-count-requires returns
    returns-2)
