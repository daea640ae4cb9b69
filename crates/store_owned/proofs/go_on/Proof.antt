-- `go_on` meets its contract: there are as many rows as cards, since the rows are the cards' words, and they follow the cards.
use mathlib.Core.Path.{refl, sym, ap, ◌∙◌}
use borrow.Author.Rules.{rules}
use lib.ListN.{length}
use Rattle.store_structs.proofs.Ways.{rows-follow, run-same}
use Rattle.store_owned.proofs.go_on.Statement.{statement}
use Rattle.store_owned.proofs.go_on.Tie as tie

serve-requires : tie.Need-serve-requires
serve-requires c κs = search rules

same_length : tie.Need-shape_of-area
same_length c = search rules

same-length-2 : tie.Need-shape_of-rows
same-length-2 c = search rules

same-length-3 : tie.Need-shape_of-lists
same-length-3 c = search rules

same-length-4 : tie.Need-shape_of-answer
same-length-4 c = search rules

returns : tie.Need-returns
returns c =
    let s = c in
    let start = s in
    let d = s.serve.ensures in
    let follow = rows-follow _ _ _ _ _ d.1.1 start.requires in
    rw (start.requires, follow) ((d.0 ∙ sym (run-same _ _ _ _ (ap length start.requires)), d.1.0), refl)

pub go_on_spec : {M : Type 1} → statement M
go_on_spec =
    tie.close (tie.spec serve-requires same_length same-length-2 same-length-3 same-length-4 returns)
