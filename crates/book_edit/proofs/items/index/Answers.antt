-- `index` meets its contract: the library's search of the items is the definition's.
use Rattle.std.proofs.Common.{◌∙◌, take, rules, tests}
use Rattle.std.proofs.lemmas.Iterator.{YieldsList-from_slice}
use Rattle.std.proofs.lemmas.Iterator.Search.{position_from_yields_List}
use lib.Dec.{eqb}
use Rattle.book.proofs.Levels.{position-index}
use Rattle.book_edit.proofs.items.index.Goals as goal

pub returns : goal.returns
returns c =
    let items = take c.args.n c.args.part.now in
    position_from_yields_List (λ x. eqb x c.args.p) _ _ c.position.result c.position.ensures.ran (YieldsList-from_slice items cc)
    (λ x b q k. search (rules, tests))
    ∙ position-index c.args.p items
