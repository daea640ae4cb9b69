-- `merge_or_refuse` meets its contract: the tables are built, their number decides, and then the merge is done.
use Prim.Native.Nat.{ℕ}
use mathlib.Core.Path.{refl, sym, ◌∙◌}
use native.Mathlib.Omega.{arith}
use borrow.Author.Rules.{rules}
use borrow.Author.Tests.{not-true, not-false}
use Rattle.coding.specs.Number.{Bytes}
use Rattle.ldc.specs.Lent.{Lent}
use Rattle.book.specs.Head.{head_words}
use Rattle.book.specs.Pieces.{lent}
use Rattle.read.specs.Look.{Levels}
use Rattle.read.specs.Shown.{Tabled}
use Rattle.compact.proofs.Given.{same, levels, tabled}
use Rattle.compact.proofs.Merges.{few, built, many, roomy, does-refused, does-merged}
use Rattle.compact.proofs.step.merge_or_refuse.Statement.{statement}
use Rattle.compact.proofs.step.merge_or_refuse.Tie as tie

slice-aggregate-merge-into : tie.Need-slice_bounds-merge_into-end
slice-aggregate-merge-into c = search rules

-- The area is bytes.
bytes : (c : tie.After-slice_known-1) → Bytes c.args.area.now
bytes c = λ i. omega (arith, c.slice_known-1.given i)

-- The memory with some memory table.
abbrev memory : (c : tie.Start) → Lent
memory c = lent c.args.area.now c.args.cards.now c.args.lists.now (head_words c.args.head) c.requires.work.memory

readable : (c : tie.After-slice_known-1) → Levels c.args.area.now c.args.cards.now c.args.lists.now (head_words c.args.head)
readable c =
    let b = c in
    levels b.args.area.now b.args.cards.now b.args.lists.now (head_words b.args.head) b.requires.work.memory b.requires.work.wide refl b.requires.work.backed (bytes c)

stands : (c : tie.After-slice_known-1) → Tabled c.args.area.now c.args.p
stands c =
    let b = c in
    tabled b.args.area.now b.args.cards.now b.args.lists.now (head_words b.args.head) b.requires.work.memory b.requires.work.wide refl b.requires.work.backed (bytes c)
    b.args.n b.args.p (omega (arith, b.requires.merging.highest)) b.requires.merging.on

merge-into-requires : tie.Need-merge_into-k-requires
merge-into-requires c κs = let k = c in (readable k.before.before, (omega (arith, k.requires.merging.highest), (stands k.before.before, refl)))

free-at-least-requires : tie.Need-free_at_least-requires
free-at-least-requires c κs = search rules

same_length : tie.Need-shape_of-area-then-not-free_at_least
same_length c = search rules

same-length-2 : tie.Need-shape_of-cards-then-not-free_at_least
same-length-2 c = search rules

same-length-3 : tie.Need-shape_of-lists-then-not-free_at_least
same-length-3 c = search rules

returns : tie.Need-returns-then-not-free_at_least
returns c memory b =
    let k = c in
    let a = k.args in
    let m = lent a.area.now a.cards.now a.lists.now (head_words a.head) memory in
    does-refused m a.n a.p c.merge_into-k.result c.merge_into-k.ensures.0 m a.head
    (sym c.free_at_least.ensures ∙ c.if-not-free_at_least.true)
    (same a.area.now a.cards.now a.lists.now (head_words a.head) memory k.requires.work.wide refl b (bytes k.before.before.before.before.before.before))
    refl

slice-aggregate-finish-merge : tie.Need-slice_bounds-finish_merge-end
slice-aggregate-finish-merge c = search rules

finish-merge-requires : tie.Need-finish_merge-after-requires
finish-merge-requires c κs =
    let i = c in
    let k = i in
    let b = k in
    let a = b.args in
    let n : ℕ = i.merge_into-k.result in
    record {
      work = b.requires.work;
      merging = b.requires.merging;
      many = many (memory b.before.before.before.before.before.before.before.before.before.before.before) a.n a.p n i.merge_into-k.ensures.0;
      tables = rw i.merge_into-k.ensures.1 (built (memory b.before.before.before.before.before.before.before.before.before.before.before) (readable k.before.before.before.before.before.before.before.before.before.before).legible (bytes k.before.before.before.before.before.before.before.before.before.before) a.n a.p (stands k.before.before.before.before.before.before.before.before.before.before) _ n refl i.merge_into-k.ensures.0);
      few = few (memory b.before.before.before.before.before.before.before.before.before.before.before) (readable k.before.before.before.before.before.before.before.before.before.before).legible (bytes k.before.before.before.before.before.before.before.before.before.before) a.n a.p (stands k.before.before.before.before.before.before.before.before.before.before) n i.merge_into-k.ensures.0;
      room = roomy (memory b.before.before.before.before.before.before.before.before.before.before.before) a.n a.p n i.merge_into-k.ensures.0 (sym c.free_at_least.ensures ∙ c.if-not-free_at_least.false);
    }

cast-t30 : tie.Need-overflow_cast-result
cast-t30 c =
    let f = c in
    omega (arith, f.requires.merging.highest)

same-length-4 : tie.Need-shape_of-area
same-length-4 c = search rules

same-length-5 : tie.Need-shape_of-cards
same-length-5 c = search rules

same-length-6 : tie.Need-shape_of-lists
same-length-6 c = search rules

returns-2 : tie.Need-returns
returns-2 c memory b =
    let f = c in
    let i = f in
    let a = i.args in
    let m = lent a.area.now a.cards.now a.lists.now (head_words a.head) memory in
    does-merged m a.n a.p i.merge_into-k.result i.merge_into-k.ensures.0 _ f.finish_merge-after.result
    (sym f.free_at_least.ensures ∙ f.if-not-free_at_least.false)
    (f.finish_merge-after.ensures memory b)

pub merge_or_refuse_spec : {M : Type 1} → statement M
merge_or_refuse_spec =
    tie.close (tie.spec slice-aggregate-merge-into merge-into-requires free-at-least-requires same_length same-length-2 same-length-3 returns slice-aggregate-finish-merge finish-merge-requires cast-t30 same-length-4 same-length-5 same-length-6 returns-2)
