-- One level: on a level whose spans rise the links are apart, since those of each table are.
use Prim.Native.Nat.{ℕ, ◌<◌}
use mathlib.Core.Path.{◌≡◌, refl, sym, ◌∙◌, ap, subst}
use mathlib.Core.List.{List}
use native.Mathlib.Omega.{arith}
use lib.ListN.{length, take}
use Rattle.ldc.specs.Layout.{items_in, part_in, level_count, length_in}
use Rattle.book.proofs.Every.{from-passes, from-done}
use Rattle.check_walk.specs.Links.{Walkable, Readable}
use Rattle.check_walk.proofs.ApartLaws.{levels-apart-turn, levels-apart-end}
use Rattle.check_places.specs.Parts.{level_rises}
use Rattle.check_quick.proofs.RestLaws.{level-apart}
use Rattle.check_quick.proofs.levels.levels_kept.Goals as goal

-- The items at hand are those of level n, and can be read.
module _ (area : List ℕ) (cards : List (List ℕ)) (lists head ends items : List ℕ) (n len : ℕ) (w : Walkable area cards lists head ends)
    (h : n < level_count) (long : len ≡ length_in head n) (part : items ≡ take len (part_in (length cards) lists n)) where
  here : items ≡ items_in (length cards) lists head n
  here = part ∙ ap (λ k. take k (part_in (length cards) lists n)) long

  readable : Readable area cards ends items
  readable = subst (λ (xs : List ℕ). Readable area cards ends xs) (sym here) (w.reads n h)

pub loop-n-init : goal.loop-n-init
loop-n-init c = (rw (c.wipe.ensures, c.requires.0.1), refl)

pub items-items-requires : goal.items-items-requires
items-items-requires c =
    let w = c.requires.0.0 in
    (w.long, (rw c.length.ensures (w.fits c.loop-n.n c.loop-n-test.true), c.loop-n-test.true))

pub items_unmarked-requires : goal.items_unmarked-requires
items_unmarked-requires c =
    (readable _ _ _ _ _ c.items-items.result.now c.loop-n.n _ c.requires.0.0 c.loop-n-test.true c.length.ensures c.items-items.ensures).names

pub rise-requires : goal.rise-requires
rise-requires c =
    readable _ _ _ _ _ c.items-items.result.now c.loop-n.n _ c.requires.0.0 c.loop-n-test.true c.length.ensures c.items-items.ensures

pub mark_items-requires : goal.mark_items-requires
mark_items-requires c =
    (readable _ _ _ _ _ c.items-items.result.now c.loop-n.n _ c.requires.0.0 c.loop-n-test.true c.length.ensures c.items-items.ensures).names

pub loop-n-preserved : goal.loop-n-preserved
unfolding level_rises
loop-n-preserved c =
    let a = c.args in
    let l = c.loop-n in
    let items = c.items-items.result.now in
    let read = readable _ _ _ _ _ items l.n _ c.requires.0.0 c.loop-n-test.true c.length.ensures c.items-items.ensures in
    let level =
    here a.area.now a.cards.now a.lists.now a.head.now a.ends.now items l.n _ c.requires.0.0 c.loop-n-test.true c.length.ensures
    c.items-items.ensures in
    let rises = sym c.rise.ensures ∙ c.if-not-rise.false in
    let apart = level-apart a.area.now a.cards.now a.ends.now items read c.requires.1 rises in (
      l.invariant.0 ∙ levels-apart-turn level_count l.n a.cards.now a.lists.now a.head.now l.marks c.loop-n-test.true
          ∙ rw (← level, sym c.items_unmarked.ensures ∙ c.if-not-items_unmarked.false, apart, ← c.mark_items.ensures),
      from-passes (level_rises a.area.now a.cards.now a.lists.now a.head.now) level_count l.n c.loop-n-test.true l.invariant.1
          (rw (← level) rises),
    )

pub returns : goal.returns
returns c _ =
    let l = c.loop-n in
    let a = c.args in (
      l.invariant.0 ∙ levels-apart-end level_count l.n a.cards.now a.lists.now a.head.now l.marks (omega arith),
      sym (from-done (level_rises a.area.now a.cards.now a.lists.now a.head.now) level_count l.n (omega arith) l.invariant.1),
    )
