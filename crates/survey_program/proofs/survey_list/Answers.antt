-- `survey_list` meets its contract: what it makes is the new store, and the rows are the cards' words.
use Rattle.std.proofs.Common.{refl, sym, ap, ◌∙◌, ℕ, List}
use lib.ListN.{replicate}
use Rattle.book.specs.Pieces.{lent}
use Rattle.book.proofs.Made.{blank}
use Rattle.store_cards.specs.Card.{rows_of}
use Rattle.store_structs.proofs.Ways.{rows-follow, make_same}
use Rattle.survey_deliver.proofs.Fresh.{made_one}
use Rattle.survey_program.proofs.survey_list.Goals as goal

pub deliver-requires : goal.deliver-requires
unfolding rows_of
deliver-requires g c =
    let s = c.start-made in
    let d = s.ensures in
    let words = c.card_of-blank.ensures in
    let follow = rows-follow _ _ _ _ _ d.1 (ap (λ (w : List ℕ). replicate 32 w) (sym words)) in (
      ap (λ (rows : List (List ℕ)). lent s.new.area rows s.new.lists s.new.head s.new.memory) follow
          ∙ made_one _ _ _ _ (d.0 ∙ sym (make_same _ _ _ refl)) refl (blank 32768) refl refl,
      follow,
    )
