-- `take_down` meets its contract: what was done is the definition's step, and its number the one of the reply.
use Prim.Native.Nat.{ℕ}
use mathlib.Core.Path.{refl}
use mathlib.Core.List.{List}
use native.Mathlib.Omega.{arith}
use borrow.Author.Rules.{rules}
use Rattle.book.specs.Head.{head_words}
use Rattle.book.specs.Pieces.{lent}
use Rattle.book_edit.proofs.Keeping.{shape_of}
use Rattle.compact_install.specs.Merge.{Backed}
use Rattle.compact_link.specs.Down.{Ready}
use Rattle.compact.proofs.Downs.{chosen-beside, does-down}
use Rattle.compact.proofs.step.take_down.Statement.{statement}
use Rattle.compact.proofs.step.take_down.Tie as tie

-- With every memory table the pieces are ready for the step.
ready : (c : tie.After-shared_slice_known-1)
    → let a = c.args in
    (memory : List ℕ) → Backed (lent a.area.now a.cards.now a.lists.now (head_words a.head) memory)
    → Ready (lent a.area.now a.cards.now a.lists.now (head_words a.head) memory) a.n a.p
ready c memory b =
    let a = c.args in
    record {
      kept = b.kept;
      shape = shape_of _ c.requires.work.wide refl b.long b.valued (λ i. omega (arith, c.shared_slice_known-1.given i));
      chosen = chosen-beside a.area.now a.cards.now a.lists.now (head_words a.head) c.requires.work.memory memory a.n a.p c.requires.chosen;
    }

go-down-requires : tie.Need-go_down-went-requires
go-down-requires c κs =
    let k = c in
    record { memory = k.requires.work.memory; ready = ready k.before.before.before k.requires.work.memory k.requires.work.backed }

cast-t13 : tie.Need-overflow_cast-result
cast-t13 c = search rules

same_length : tie.Need-shape_of-cards
same_length c = search rules

same-length-2 : tie.Need-shape_of-lists
same-length-2 c = search rules

returns : tie.Need-returns
returns c memory b =
    let g = c in
    let k = g in
    let a = k.args in
    let done = g.go_down-went.ensures memory (ready k.before.before.before.before.before.before.before.before memory b) in
    does-down (lent a.area.now a.cards.now a.lists.now (head_words a.head) memory) _ a.n a.p _ _ done.number done.left

pub take_down_spec : {M : Type 1} → statement M
take_down_spec =
    tie.close (tie.spec go-down-requires cast-t13 same_length same-length-2 returns)
