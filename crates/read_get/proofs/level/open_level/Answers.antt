-- `open_level` meets its contract: all but the last table with a least key of at most the key, and the next, can be left out.
use Rattle.std.proofs.Common.{◌≡◌, ◌-◌, ◌++◌, take, drop, arith}
use Rattle.coding.specs.Number.{Bytes}
use Rattle.ldc.specs.Layout.{most_places}
use Rattle.ldc.specs.Probe.{asked_on}
use Rattle.book.specs.Rows.{shown_by}
use Rattle.read.proofs.Rank.{spans}
use Rattle.read_get.proofs.Opening.{opens-met, opens-then, opens-fit}
use Rattle.read_get.proofs.Asking.{asked-first, asked-two, few-parts}
use Rattle.read_get.proofs.Whole.{few-rising}
use Rattle.read_get.proofs.level.open_level.Goals as goal
use Rattle.read_get.proofs.level.open_level.Goals.{Else-end-eq0}

-- Where one at least is reached, it and the next are asked.
two : (c : Else-end-eq0)
    → let a = c.args in
    let s = shown_by a.area.now a.cards.now in
    let j = c.count_reached-end.result in
    asked_on s a.key.value a.items.now
    ≡ asked_on s a.key.value (take 1 (drop (j - 1) a.items.now)) ++ asked_on s a.key.value (take 1 (drop j a.items.now))
two c =
    let a = c.args in
    let f = c.count_reached-end in
    let bytes : Bytes a.area.now = λ i. omega (arith, c.type_inv.area i) in
    asked-two (shown_by a.area.now a.cards.now) a.key.value 0 a.items.now
    (spans a.area.now a.cards.now a.items.now bytes c.requires.0.legible c.requires.1.1) f.result
    (omega arith) f.ensures.1.0 f.ensures.1.1

pub returns-then-end-eq0 : goal.returns-then-end-eq0
returns-then-end-eq0 c =
    let a = c.args in
    let f = c.count_reached-end in
    let none : f.result ≡ 0 = c.if-end-eq0.true in
    let bytes : Bytes a.area.now = λ i. omega (arith, c.type_inv.area i) in
    let first = asked-first (shown_by a.area.now a.cards.now) a.key.value 0 a.items.now
    (spans a.area.now a.cards.now a.items.now bytes c.requires.0.legible c.requires.1.1) (omega (arith, f.ensures.1.0)) in
    rw first (rw none at c.open_at.ensures)

pub returns-then-last : goal.returns-then-last
returns-then-last c =
    let a = c.args in
    rw (two (goal.at.returns-then-last c).Else-end-eq0)
    (opens-met a.area.now a.cards.now a.key.value _ _ _ c.open_at-last.ensures c.if-last.true)

pub then-requires : goal.then-requires
then-requires c =
    let a = c.args in
    let bytes : Bytes a.area.now = λ i. omega (arith, c.type_inv.area i) in
    let s = shown_by a.area.now a.cards.now in
    let j = c.count_reached-end.result in
    let few = few-parts s a.key.value a.items.now (asked_on s a.key.value (take 1 (drop (j - 1) a.items.now)))
    (asked_on s a.key.value (take 1 (drop j a.items.now))) most_places (two (goal.at.then-requires c).Else-end-eq0)
    (few-rising a.area.now a.cards.now a.key.value a.items.now bytes c.requires.0.legible c.requires.1.1) in
    opens-fit a.area.now a.cards.now a.key.value _ _ _ _ c.open_at-last.ensures c.open_at-2.ensures few.0 few.1

pub returns : goal.returns
returns c =
    let a = c.args in
    rw (two (goal.at.returns c).Else-end-eq0, c.then.ensures)
    (opens-then a.area.now a.cards.now a.key.value _ _ _ c.open_at-last.ensures c.if-last.false _ c.open_at-2.ensures)
