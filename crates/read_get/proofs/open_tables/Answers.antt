-- `open_tables` meets its contract: level 0, then the levels below.
use Rattle.std.proofs.Common.{arith}
use lib.ListN.{length-reverse}
use Rattle.coding.specs.Number.{Bytes}
use Rattle.book.specs.Head.{head_words}
use Rattle.read_get.specs.Opens.{BitsOf, asked_in}
use Rattle.read_get.proofs.Opening.{opens-met, opens-then, opens-fit}
use Rattle.read_get.proofs.Whole.{few-newest, few-lower}
use Rattle.read_get.proofs.open_tables.Goals as goal
use Rattle.read_get.proofs.open_tables.Goals.{After-bits_of-three}

pub items-items-requires : goal.items-items-requires
items-items-requires c = let v = c.requires in (v.sized, (v.lengths 0 (omega arith), omega arith))

own : (c : After-bits_of-three) → BitsOf c.args.key.value c.bits_of-three.result
own c = record { exclusive = c.bits_of-three.ensures.0; sum = c.bits_of-three.ensures.1.0; weighed = c.bits_of-three.ensures.1.1 }

pub open_newest-newest-requires : goal.open_newest-newest-requires
open_newest-newest-requires c =
    let a = c.args in
    let v = c.requires in
    let few = few-newest a.area.now a.cards.now a.lists.now (head_words a.head) a.key.value v in (
      record { legible = v.legible; linked = v.linked; own = own (goal.at.open_newest-newest-requires c).After-bits_of-three },
      (rw c.items-items.ensures (v.summed 0 (omega arith)), rw c.items-items.ensures few),
    )

pub returns-then-newest : goal.returns-then-newest
unfolding asked_in
returns-then-newest c =
    let a = c.args in
    rw (← c.items-items.ensures) (opens-met a.area.now a.cards.now a.key.value _ _ _ c.open_newest-newest.ensures c.if-newest.true)

pub open_lower-requires : goal.open_lower-requires
open_lower-requires c = (c.requires, own (goal.at.open_lower-requires c).After-bits_of-three)

pub then-requires : goal.then-requires
then-requires c =
    let a = c.args in
    let bytes : Bytes a.area.now = λ i. omega (arith, c.type_inv.area i) in
    let items = c.items-items in
    let few = few-newest a.area.now a.cards.now a.lists.now (head_words a.head) a.key.value c.requires in
    opens-fit a.area.now a.cards.now a.key.value _ _ _ _ c.open_newest-newest.ensures c.open_lower.ensures
    (omega (arith, length-reverse items.result.now, rw (← items.ensures) at few))
    (few-lower a.area.now a.cards.now a.lists.now (head_words a.head) a.key.value bytes c.requires)

pub returns : goal.returns
unfolding asked_in
returns c =
    let a = c.args in
    rw (← c.items-items.ensures, c.then.ensures)
    (opens-then a.area.now a.cards.now a.key.value _ _ _ c.open_newest-newest.ensures c.if-newest.false _ c.open_lower.ensures)
