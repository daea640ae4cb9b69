-- `in_lower` meets its contract: one level more, the one above, is taken in over those below it, and at the end they are all.
use Rattle.std.proofs.Common.{◌≡◌, ◌-◌, ◌<◌, suc, length, ◌∙◌, arith}
use Rattle.ldc.specs.Layout.{items_in}
use Rattle.book.specs.Head.{head_words}
use Rattle.read.specs.Shown.{Rising}
use Rattle.read_gather.proofs.Steps.{none-taken, in_use, both-taken}
use Rattle.read_gather.proofs.Whole.{lower-none, lower-one}
use Rattle.read_gather.proofs.store.in_lower.Goals as goal
use Rattle.read_gather.proofs.store.in_lower.Goals.{After-items-items}

pub loop-k-init : goal.loop-k-init
loop-k-init c =
    let a = c.args in
    record {
      some = omega arith;
      taken = rw (lower-none a.area.now a.cards.now a.lists.now (head_words a.head) a.low.value a.high.value)
          (none-taken a.area.now a.keys.now a.spots.now a.n c.requires.1.1.0 c.requires.1.1.1.0);
    }

-- The items that are lent on are the level's.
lent-items : (c : After-items-items)
    → let a = c.args in c.items-items.result.now ≡ items_in (length a.cards.now) a.lists.now (head_words a.head) (c.loop-k.k - 1)
lent-items c = c.items-items.ensures ∙ rw c.length_of.ensures

pub in_level-used-requires : goal.in_level-used-requires
in_level-used-requires c =
    let a = c.args in
    let l = c.loop-k in
    let p = c.requires in
    let e : suc (l.k - 1 - 1) ≡ l.k - 1 = omega (arith, c.loop-k-test.true) in
    let r : Rising a.area.now a.cards.now (items_in (length a.cards.now) a.lists.now (head_words a.head) (l.k - 1)) =
    rw e at (p.0.rising (l.k - 1 - 1) (omega (arith, l.auto.k, c.loop-k-test.true))) in
    let some : 0 < length l.keys = omega (arith, l.auto.keys, p.1.0) in (
      p.0.legible,
      (
        rw (lent-items (goal.at.in_level-used-requires c).After-items-items) r,
        (some, in_use p.1.1 l.invariant.taken l.auto.keys l.auto.spots),
      ),
    )

pub loop-k-preserved : goal.loop-k-preserved
loop-k-preserved c =
    let a = c.args in
    let l = c.loop-k in
    let one =
    lower-one a.area.now a.cards.now a.lists.now (head_words a.head) a.low.value a.high.value l.k (omega (arith, c.loop-k-test.true)) l.auto.k in
    let taken = rw (lent-items (goal.at.loop-k-preserved c).After-items-items) at c.in_level-used.ensures in
    record {
      some = omega (arith, c.loop-k-test.true);
      taken = rw one (both-taken a.area.now _ _ a.keys.now a.spots.now a.n l.keys l.spots l.used _ _ _ l.auto.keys l.invariant.taken taken);
    }

pub returns : goal.returns
returns c =
    let l = c.loop-k in
    let e : l.k ≡ 1 = omega (arith, l.invariant.some, c.loop-k-test.false) in
    rw e at l.invariant.taken
