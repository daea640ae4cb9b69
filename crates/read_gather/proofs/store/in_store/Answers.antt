-- `in_store` meets its contract: levels 1 to 3, level 0 and the memory table, taken in one after the other, are the read order.
use Rattle.std.proofs.Common.{◌≡◌, ◌<◌, ◌%◌, [], ◌∷◌, map, reverse, length, ◌∙◌, arith}
use Rattle.coding.specs.Number.{Bytes}
use Rattle.table.specs.Limits.{place_size}
use Rattle.table.specs.Table.{entries}
use Rattle.ldc.specs.Layout.{items_in}
use Rattle.ldc.specs.Lent.{Lent}
use Rattle.ldc.proofs.Lent.Rules.{unbroken}
use Rattle.book.specs.Head.{head_words}
use Rattle.book.specs.Pieces.{lent}
use Rattle.read.specs.Look.{Levels}
use Rattle.read.proofs.Levels.{levels-kept}
use Rattle.read_gather.specs.Beside.{InUse}
use Rattle.read_gather.proofs.Narrow.{narrow-taken}
use Rattle.read_gather.proofs.Steps.{table_at, in_use, both-taken}
use Rattle.read_gather.proofs.Whole.{longer, memory-taken, order-ranges}
use Rattle.read_gather.proofs.store.in_store.Goals as goal
use Rattle.read_gather.proofs.store.in_store.Goals.{After-in_lower-lower, After-in_newest-tables}

pub in_lower-lower-requires : goal.in_lower-lower-requires
in_lower-lower-requires c =
    let a = c.args in
    let p = c.requires.0 in
    let memory : Bytes a.memory.now = λ i. omega (arith, c.type_inv.memory i) in
    let bytes : Bytes a.area.now = λ i. omega (arith, c.type_inv.area i) in
    (levels-kept (lent a.area.now a.cards.now a.lists.now (head_words a.head) a.memory.now) p.kept p.memory memory bytes, c.requires.1)

-- The pieces that are lent, and their levels.
abbrev pieces : After-in_lower-lower → Lent
pieces c = let a = c.args in lent a.area.now a.cards.now a.lists.now (head_words a.head) a.memory.now

levels : (c : After-in_lower-lower) → let a = c.args in Levels a.area.now a.cards.now a.lists.now (head_words a.head)
levels c =
    let p = c.requires.0 in
    levels-kept (pieces c) p.kept p.memory (λ i. omega (arith, c.type_inv.memory i)) (λ i. omega (arith, c.type_inv.area i))

-- After the levels below, and after level 0.
lowered : (c : After-in_lower-lower) → let t = c.in_lower-lower in (0 < length t.new.keys) × InUse t.new.keys t.new.spots t.result
lowered c =
    let t = c.in_lower-lower in
    (omega (arith, t.auto.keys, c.requires.1.0), in_use c.requires.1.1 t.ensures t.auto.keys t.auto.spots)

filled : (c : After-in_newest-tables) → let t = c.in_newest-tables in (0 < length t.new.keys) × InUse t.new.keys t.new.spots t.result
filled c =
    let b = c.in_lower-lower in
    let t = c.in_newest-tables in
    let u : InUse b.new.keys b.new.spots b.result = in_use c.requires.1.1 b.ensures b.auto.keys b.auto.spots in
    (omega (arith, t.auto.keys, b.auto.keys, c.requires.1.0), in_use u t.ensures t.auto.keys t.auto.spots)

pub items-items-requires : goal.items-items-requires
items-items-requires c =
    let v = levels (goal.at.items-items-requires c).After-in_lower-lower in
    (v.sized, (v.lengths 0 (omega arith), omega arith))

pub in_newest-tables-requires : goal.in_newest-tables-requires
in_newest-tables-requires c =
    let l = (goal.at.in_newest-tables-requires c).After-in_lower-lower in
    (rw c.items-items.ensures (levels l).newest, (lowered l).1)

pub take_in-requires : goal.take_in-requires
take_in-requires c =
    let l = (goal.at.take_in-requires c).After-in_lower-lower in
    let p = c.requires.0 in (
      (p.memory, (unbroken (pieces l) p.kept.unbroken).memory),
      (omega (arith, (levels l).legible.sized, (levels l).legible.few), (filled (goal.at.take_in-requires c).After-in_newest-tables).1),
    )

pub returns : goal.returns
returns c =
    let l = (goal.at.returns c).After-in_lower-lower in
    let a = c.args in
    let p = c.requires.0 in
    let A = a.area.now in
    let M = a.memory.now in
    let x = c.in_lower-lower in
    let y = c.in_newest-tables in
    let z = c.take_in in
    let k₁ = x.new.keys in
    let s₁ = x.new.spots in
    let k₂ = y.new.keys in
    let s₂ = y.new.spots in
    let u₁ = lowered l in
    let memory : Bytes M = λ i. omega (arith, l.type_inv.memory i) in
    let bytes : Bytes A = λ i. omega (arith, l.type_inv.area i) in
    let u₂ = filled (goal.at.returns c).After-in_newest-tables in
    -- the area is of whole places
    let whole : length A % place_size ≡ 0 = omega (arith, (levels l).legible.sized) in
    let tables = map (table_at A) (reverse (items_in (length a.cards.now) a.lists.now (head_words a.head) 0)) in
    let newest = narrow-taken a.low.value a.high.value tables k₁ x.result u₁.1.1.0 u₁.0 A s₁ k₂ s₂ y.result
    (rw (c.up_to-top.ensures, c.items-items.ensures) at y.ensures) in
    let held = narrow-taken a.low.value a.high.value (entries M ∷ []) k₂ y.result u₂.1.1.0 u₂.0 _ s₂ z.new.keys z.new.spots z.result
    (memory-taken A M a.low.value _ k₂ s₂ y.result z.new.keys z.new.spots z.result p.memory whole (rw c.up_to-last.ensures at z.ensures)) in
    rw (← (order-ranges (pieces l) p.kept p.memory memory bytes a.low.value a.high.value))
    (both-taken _ _ _ a.keys.now a.spots.now a.n k₂ s₂ y.result z.new.keys z.new.spots z.result (y.auto.keys ∙ x.auto.keys)
    (longer A M _ a.keys.now a.spots.now a.n k₂ s₂ y.result
    (both-taken A _ _ a.keys.now a.spots.now a.n k₁ s₁ x.result k₂ s₂ y.result x.auto.keys x.ensures newest)) held)
