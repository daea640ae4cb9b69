-- `link` meets its contract: the chosen table is none of those below, so freezing it changes no span there.
use mathlib.Core.Path.{◌∙◌}
use borrow.Author.Rules.{rules}
use Rattle.table.specs.Table.{entries, place_of}
use Rattle.read.proofs.Shows.{carded}
use Rattle.compact_link.proofs.Rows.{frozen-below, frozen-slices}
use Rattle.compact_link.proofs.link.link.Statement.{statement}
use Rattle.compact_link.proofs.link.link.Tie as tie

freeze-requires : tie.Need-freeze-requires
freeze-requires c κs =
    let b = c in
    carded b.args.area.now b.args.cards.now b.requires.hosts.legible b.args.p b.requires.tabled

hang-all-requires : tie.Need-hang_all-requires
hang-all-requires c κs =
    let b = c in
    let a = b.args in
    rw c.freeze.ensures (
      frozen-below a.area.now a.cards.now 0 a.items.now a.p b.requires.apart
          (carded a.area.now a.cards.now b.requires.hosts.legible a.p b.requires.tabled) b.requires.bare b.requires.hosts,
      b.requires.tabled,
    )

same_length : tie.Need-shape_of-cards
same_length c = search rules

returns : tie.Need-returns
returns c =
    let b = c in
    let a = b.args in
    c.hang_all.ensures
    ∙ rw (
      c.freeze.ensures,
      frozen-slices a.area.now a.cards.now 0 a.items.now a.p b.requires.apart (entries (place_of a.area.now a.p)),
    )

pub link_spec : {M : Type 1} → statement M
link_spec =
    tie.close (tie.spec freeze-requires hang-all-requires same_length returns)
