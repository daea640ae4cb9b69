-- `drops_mark` meets its contract: a level that holds the key decides, one that does not leaves it to the next, and beyond the last none holds it.
use Rattle.std.proofs.Common.{◌≡◌, ◌-◌, suc, true, not, ◌||◌, length, sym, ◌∙◌, ap, add-one, arith}
use Rattle.ldc.specs.Layout.{items_in}
use Rattle.book.specs.Head.{head_words}
use Rattle.compact_merge.proofs.Drops.{held_from, drops-by, held-turn, held-end}
use Rattle.compact_merge.proofs.sift.drops_mark.Goals as goal
use Rattle.compact_merge.proofs.sift.drops_mark.Goals.{After-holds}

-- The items that are searched are those of the level.
pub holds-requires : goal.holds-requires
holds-requires c =
    let v = c.requires.0 in
    let l = c.loop-below in
    let items : c.items-items.result.now ≡ items_in (length c.args.cards.now) c.args.lists.now (head_words c.args.head) l.below =
    c.items-items.ensures ∙ rw c.length_of.ensures in
    let z : suc (l.below - 1) ≡ l.below = omega (arith, l.auto.below) in
    let rising = rw z at (v.rising (l.below - 1) (omega (arith, l.auto.below, c.loop-below-test.true))) in
    (v.legible, rw items rising)

-- One level's part in it.
turned : (c : After-holds)
    → let a = c.args in
    held_from a.area.now a.cards.now a.lists.now (head_words a.head) a.key.value (suc a.n)
    ≡ (c.holds.result || held_from a.area.now a.cards.now a.lists.now (head_words a.head) a.key.value (suc c.loop-below.below))
turned c =
    let a = c.args in
    let l = c.loop-below in
    let items : c.items-items.result.now ≡ items_in (length c.args.cards.now) c.args.lists.now (head_words c.args.head) l.below =
    c.items-items.ensures ∙ rw c.length_of.ensures in
    l.invariant
    ∙ held-turn a.area.now a.cards.now a.lists.now (head_words a.head) a.key.value c.requires.0.legible l.below
    (omega (arith, c.loop-below-test.true))
    ∙ rw (c.holds.ensures, items)

pub returns-then-holds : goal.returns-then-holds
returns-then-holds c mark e =
    let a = c.args in
    let held : held_from a.area.now a.cards.now a.lists.now (head_words a.head) a.key.value (suc a.n) ≡ true =
    turned (goal.at.returns-then-holds c).After-holds ∙ rw c.if-holds.true in
    sym (drops-by a.area.now a.cards.now a.lists.now (head_words a.head) a.key.value a.n mark e ∙ ap not held)

pub loop-below-preserved : goal.loop-below-preserved
loop-below-preserved c = turned (goal.at.loop-below-preserved c).After-holds ∙ rw (c.if-holds.false, add-one c.loop-below.below)

pub returns : goal.returns
returns c mark e =
    let a = c.args in
    let l = c.loop-below in
    sym (drops-by a.area.now a.cards.now a.lists.now (head_words a.head) a.key.value a.n mark e
    ∙ ap not (l.invariant ∙ held-end a.area.now a.cards.now a.lists.now (head_words a.head) a.key.value l.below
    (omega (arith, c.loop-below-test.false))))
