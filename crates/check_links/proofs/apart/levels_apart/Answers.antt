-- `levels_apart` meets its contract: level after level, with the marks of those before it.
use Prim.Native.Nat.{◌+◌, ◌-◌}
use mathlib.Core.Path.{◌≡◌, sym, ◌∙◌, ap}
use mathlib.Core.Bool.{◌&&◌}
use native.Mathlib.Omega.{arith}
use lib.ListN.{length, take}
use Rattle.table.specs.Table.{zeros}
use Rattle.ldc.specs.Lists.{all}
use Rattle.ldc.specs.Layout.{items_in, part_in, level_count}
use Rattle.check_walk.specs.Links.{pairs, apart_in, links_over, unmarked, levels_apart, links_marked}
use Rattle.check_walk.proofs.ApartLaws.{levels-apart-turn, levels-apart-end}
use Rattle.check_links.proofs.apart.levels_apart.Goals as goal
use Rattle.check_links.proofs.apart.levels_apart.Goals.{After-items-items}

-- What is left is this level, and those behind it.
turned : (c : After-items-items)
    → let a = c.args in
    let l = c.loop-n in
    let ls = links_over a.cards.now c.items-items.result.now in
    levels_apart 3 1 a.cards.now a.lists.now a.head.now (zeros (length a.cards.now))
    ≡ (all (unmarked l.marks) ls
    && (pairs apart_in ls && levels_apart (level_count - (l.n + 1)) (l.n + 1) a.cards.now a.lists.now a.head.now (links_marked l.marks ls)))
turned c =
    let a = c.args in
    let l = c.loop-n in
    let here : c.items-items.result.now ≡ items_in (length a.cards.now) a.lists.now a.head.now l.n =
    c.items-items.ensures ∙ ap (λ k. take k (part_in (length a.cards.now) a.lists.now l.n)) c.length.ensures in
    l.invariant.left_over ∙ levels-apart-turn level_count l.n a.cards.now a.lists.now a.head.now l.marks (omega arith) ∙ rw here

pub returns-then-not-items_unmarked : goal.returns-then-not-items_unmarked
returns-then-not-items_unmarked c =
    sym (turned (goal.at.returns-then-not-items_unmarked c).After-items-items ∙ rw (sym c.items_unmarked.ensures ∙ c.if-not-items_unmarked.true))

pub returns-then-not-level_apart : goal.returns-then-not-level_apart
returns-then-not-level_apart c =
    sym (turned (goal.at.returns-then-not-level_apart c).After-items-items
    ∙ rw (sym c.items_unmarked.ensures ∙ c.if-not-items_unmarked.false, sym c.level_apart.ensures ∙ c.if-not-level_apart.true))

pub loop-n-preserved : goal.loop-n-preserved
loop-n-preserved c = record {
  long = c.mark_items.auto.marks ∙ c.loop-n.invariant.long;
  left_over = turned (goal.at.loop-n-preserved c).After-items-items
      ∙ rw (
        sym c.items_unmarked.ensures ∙ c.if-not-items_unmarked.false,
        sym c.level_apart.ensures ∙ c.if-not-level_apart.false,
        ← c.mark_items.ensures,
      );
}

pub returns : goal.returns
returns c =
    let l = c.loop-n in
    let a = c.args in
    sym (l.invariant.left_over ∙ levels-apart-end level_count l.n a.cards.now a.lists.now a.head.now l.marks (omega arith))
