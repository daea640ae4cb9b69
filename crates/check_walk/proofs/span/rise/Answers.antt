-- `rise` meets its contract: the first table, then one after the other behind it.
use Prim.Native.Nat.{ℕ, ◌+◌, ◌-◌, ◌<◌, ◌≤◌}
use mathlib.Core.Path.{◌≡◌, ◌∙◌}
use mathlib.Core.List.{List}
use native.Mathlib.Omega.{arith}
use borrow.Author.Tests.{lt-ltb, le-ltb}
use lib.ListN.{length, get_or, take, drop, length-take, length-drop}
use Rattle.std.proofs.lemmas.List.{get_or-take}
use Rattle.std.proofs.lemmas.Grind.{get_or_after_one}
use Rattle.book.specs.Rows.{shown_by}
use Rattle.check_walk.proofs.Items.{known-item}
use Rattle.check_walk.proofs.SpanLaws.{rise-first, rise-fails, rise-passes}
use Rattle.check_walk.proofs.span.rise.Goals as goal

-- The items behind the first.
abbrev rest : List ℕ → List ℕ
rest items = take (length items - 1) (drop 1 items)

within : (items : List ℕ) (i : ℕ) → i < length (rest items) → i + 1 < length items
within items i h = omega (arith, length-take (length items - 1) (drop 1 items), length-drop 1 items)

behind : (items : List ℕ) (i : ℕ) → i < length (rest items) → get_or (rest items) i 0 ≡ get_or items (i + 1) 0
behind items i h =
    let w = within items i h in
    let s : 1 + i ≡ i + 1 = omega arith in
    get_or-take (length items - 1) (drop 1 items) i 0 (omega arith) ∙ get_or_after_one items i 0 ∙ rw s

pub span_at-requires : goal.span_at-requires
span_at-requires c = rw c.from.ensures (known-item _ _ _ _ 0 c.requires c.in-len1-up.len_at_least)

pub loop-p-init : goal.loop-p-init
loop-p-init c =
    let a = c.args in
    rise-first (shown_by a.area.now a.cards.now) a.items.now c.in-len1-up.len_at_least ∙ rw (c.span_at.ensures.1, c.from.ensures)

pub span_at-span-requires : goal.span_at-span-requires
span_at-span-requires c =
    let i = c.loop-p.p-index in
    let items = c.args.items.now in
    rw (c.from-in-loop-p.ensures, behind items i c.loop-p-test.true)
    (known-item _ _ _ _ (i + 1) c.requires (within items i c.loop-p-test.true))

pub returns-then-le : goal.returns-then-le
returns-then-le c =
    let a = c.args in
    let l = c.loop-p in
    let here = c.from-in-loop-p.ensures ∙ behind a.items.now l.p-index c.loop-p-test.true in
    let start = c.span_at-span.ensures.0 in
    let order : c.span_at-span.result.start.value ≤ l.end.value = grind arith in
    rise-fails (shown_by a.area.now a.cards.now) a.items.now (l.p-index + 1) l.end.value (within a.items.now l.p-index c.loop-p-test.true)
    l.invariant
    (rw (← here, ← start) (le-ltb _ _ order))

pub loop-p-preserved : goal.loop-p-preserved
loop-p-preserved c =
    let a = c.args in
    let l = c.loop-p in
    let here = c.from-in-loop-p.ensures ∙ behind a.items.now l.p-index c.loop-p-test.true in
    let start = c.span_at-span.ensures.0 in
    let order : l.end.value < c.span_at-span.result.start.value = grind arith in
    rise-passes (shown_by a.area.now a.cards.now) a.items.now (l.p-index + 1) l.end.value (within a.items.now l.p-index c.loop-p-test.true)
    l.invariant
    (rw (← here, ← start) (lt-ltb _ _ order))
    ∙ rw (← here, c.span_at-span.ensures.1)
