-- `open_lower` meets its contract: a turn asks a level, and then those below it are left.
use Rattle.std.proofs.Common.{◌≡◌, ℕ, suc, ◌+◌, ◌-◌, ◌≤◌, ◌<◌, List, ◌++◌, length, refl, ◌∙◌, arith}
use Rattle.coding.specs.Number.{Bytes}
use Rattle.ldc.specs.Layout.{items_in, level_count}
use Rattle.ldc.specs.Probe.{asked_on}
use Rattle.book.specs.Head.{head_words}
use Rattle.book.specs.Rows.{shown_by}
use Rattle.read.specs.Shown.{ListSummed, Rising}
use Rattle.read.specs.Look.{Levels}
use Rattle.read_get.specs.Opens.{asked_from}
use Rattle.read_get.proofs.Opening.{Left, left-start, left_as, left-fit, left-met, left-next, left_end}
use Rattle.read_get.proofs.Whole.{few-rising, from-turn, from_end, few-lower}
use Rattle.read_get.proofs.open_lower.Goals as goal
use Rattle.read_get.proofs.open_lower.Goals.{After-open_level-next}

pub loop-n-init : goal.loop-n-init
loop-n-init c =
    let a = c.args in
    left-start a.area.now a.cards.now a.key.value _ _ _ refl
    record { missed = c.nothing-seen.ensures.0; tables = c.nothing-seen.ensures.1.0; bits = c.nothing-seen.ensures.1.1 }

pub items-items-requires : goal.items-items-requires
items-items-requires c =
    let v = c.requires.0 in
    (v.sized, (rw c.length_of.ensures (v.lengths c.loop-n.n (omega arith)), omega arith))

-- The list of a level that is lent on rises.
rises : (area : List ℕ) (cards : List (List ℕ)) (lists head items : List ℕ) (n : ℕ) → Levels area cards lists head → 1 ≤ n → n < level_count
    → items ≡ items_in (length cards) lists head n → Rising area cards items
rises area cards lists head items n v h k e =
    let one : suc (n - 1) ≡ n = omega arith in
    let r : Rising area cards (items_in (length cards) lists head n) = rw one at (v.rising (n - 1) (omega arith)) in
    rw e r

pub open_level-next-requires : goal.open_level-next-requires
open_level-next-requires c =
    let a = c.args in
    let v = c.requires.0 in
    let e : c.items-items.result.now ≡ items_in (length a.cards.now) a.lists.now (head_words a.head) c.loop-n.n =
    c.items-items.ensures ∙ rw c.length_of.ensures in
    let summed : ListSummed a.area.now a.cards.now c.items-items.result.now = rw e (v.summed c.loop-n.n (omega arith)) in (
      record { legible = v.legible; linked = v.linked; own = c.requires.1 },
      (
        summed,
        rises a.area.now a.cards.now a.lists.now (head_words a.head) _
            c.loop-n.n v (omega arith) (omega arith) e,
      ),
    )

-- What is left: this level, and those below it.
turned : (c : After-open_level-next)
    → let a = c.args in
    let l = c.loop-n in
    Left a.area.now a.cards.now a.key.value (asked_from a.area.now a.cards.now a.lists.now (head_words a.head) a.key.value 3 1)
    (asked_on (shown_by a.area.now a.cards.now) a.key.value c.items-items.result.now
    ++ asked_from a.area.now a.cards.now a.lists.now (head_words a.head) a.key.value (level_count - (l.n + 1)) (l.n + 1)) l.seen
turned c =
    let a = c.args in
    let l = c.loop-n in
    let e : c.items-items.result.now ≡ items_in (length a.cards.now) a.lists.now (head_words a.head) c.loop-n.n =
    c.items-items.ensures ∙ rw c.length_of.ensures in
    left_as a.area.now a.cards.now a.key.value _ _ _ _
    (from-turn a.area.now a.cards.now a.lists.now (head_words a.head) a.key.value l.n (omega arith) ∙ rw e)
    l.invariant

pub then-seen-requires : goal.then-seen-requires
then-seen-requires c =
    let a = c.args in
    let bytes : Bytes a.area.now = λ i. omega (arith, c.type_inv.area i) in
    let e : c.items-items.result.now ≡ items_in (length a.cards.now) a.lists.now (head_words a.head) c.loop-n.n =
    c.items-items.ensures ∙ rw c.length_of.ensures in
    let r = rises a.area.now a.cards.now a.lists.now (head_words a.head) _ c.loop-n.n c.requires.0 (omega arith) (omega arith) e in
    left-fit a.area.now a.cards.now a.key.value _ _ _ _ _ (turned c) c.open_level-next.ensures
    (few-lower a.area.now a.cards.now a.lists.now (head_words a.head) a.key.value bytes c.requires.0)
    (few-rising a.area.now a.cards.now a.key.value c.items-items.result.now bytes c.requires.0.legible r)

pub returns-then-seen : goal.returns-then-seen
returns-then-seen c =
    let a = c.args in
    left-met a.area.now a.cards.now a.key.value _ _ _ _ _ (turned (goal.at.returns-then-seen c).After-open_level-next) c.open_level-next.ensures
    _ c.then-seen.ensures c.if-seen.true

pub loop-n-preserved : goal.loop-n-preserved
loop-n-preserved c =
    let a = c.args in
    left-next a.area.now a.cards.now a.key.value _ _ _ _ _ (turned (goal.at.loop-n-preserved c).After-open_level-next) c.open_level-next.ensures
    _ c.then-seen.ensures c.if-seen.false

pub returns : goal.returns
returns c =
    let a = c.args in
    left_end a.area.now a.cards.now a.key.value _ _
    (left_as a.area.now a.cards.now a.key.value _ _ _ _
    (from_end a.area.now a.cards.now a.lists.now (head_words a.head) a.key.value c.loop-n.n (omega arith)) c.loop-n.invariant)
