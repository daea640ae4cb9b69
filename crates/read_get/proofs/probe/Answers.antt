-- `probe` meets its contract: memory, then the tables asked, decide what is read and what is opened.
use Rattle.std.proofs.Common.{◌≡◌, ℕ, List, ◌++◌, length, sym, ◌∙◌, ap, arith}
use Rattle.table.specs.Table.{entries}
use Rattle.table.specs.Search.{find, find_in}
use Rattle.std.specs.Prelude as code
use Rattle.ldc.specs.Lists.{flat}
use Rattle.ldc.specs.Lent.{Lent, store_of}
use Rattle.ldc.specs.Probe.{opened_of, opened, bits_in}
use Rattle.ldc.specs.Read.{read_order}
use Rattle.ldc.proofs.Lent.Rules.{unbroken}
use Rattle.ldc.proofs.Stores.Asked.{tables}
use Rattle.book.specs.Head.{head_words}
use Rattle.book.specs.Pieces.{lent}
use Rattle.book.specs.Rows.{shown_by}
use Rattle.read.proofs.Levels.{levels-kept}
use Rattle.read.proofs.Spots.{spot-memory, spot-place, spot-none}
use Rattle.read_get.specs.Opens.{Opens, asked_in}
use Rattle.read_get.specs.declared.opened.Opened.{Opened}
use Rattle.read_get.proofs.Whole.{order-asked, memory-decides, tables-decide, same_bits}
use Rattle.read_get.proofs.probe.Goals as goal
use Rattle.read_get.proofs.probe.Goals.{After-find}

pub find-requires : goal.find-requires
find-requires c = (c.requires.memory, (unbroken _ c.requires.kept.unbroken).memory)

-- The lent memory.
abbrev whole : After-find → Lent
whole c =
    let a = c.args in lent a.area.now a.cards.now a.lists.now (head_words a.head) a.memory.now

abbrev asks : After-find → List ℕ
asks c =
    let a = c.args in asked_in a.area.now a.cards.now a.lists.now (head_words a.head) a.key.value

order : (c : After-find)
    → let a = c.args in
    find a.key.value (flat (read_order (store_of (whole c))))
    ≡ find a.key.value (entries a.memory.now ++ tables (shown_by a.area.now a.cards.now) (asks c))
order c =
    order-asked (whole c) c.args.key.value c.requires.kept c.requires.memory
    (λ i. omega (arith, c.type_inv.memory i)) (λ i. omega (arith, c.type_inv.area i))

-- What the walk counted is what is opened.
counted : (c : After-find) (r : Opened) → find_in c.args.memory.now c.args.key.value ≡ code.None
    → Opens c.args.area.now c.args.cards.now c.args.key.value (asks c) r
    → (r.tables ≡ length (opened (store_of (whole c)) c.args.key.value))
    × (r.bits ≡ bits_in (store_of (whole c)) (opened (store_of (whole c)) c.args.key.value))
counted c r h o =
    let a = c.args in
    let e = tables-decide (whole c) a.key.value c.requires.kept h in
    (rw e o.tables, rw e (o.bits ∙ same_bits (whole c) a.key.value (opened_of (shown_by a.area.now a.cards.now) a.key.value (asks c))))

pub returns-in-Some : goal.returns-in-Some
returns-in-Some c =
    let a = c.args in
    let b = (goal.at.returns-in-Some c).After-find in
    let h = sym c.find.ensures ∙ c.in-Some.is in
    let none = memory-decides (whole b) a.key.value c.requires.kept _ h in (
      rw (order b) (spot-memory a.area.now a.memory.now a.key.value _ _ (unbroken _ c.requires.kept.unbroken).memory h),
      (sym (ap length none), sym (ap (bits_in (store_of (whole b))) none)),
    )

pub open_tables-seen-requires : goal.open_tables-seen-requires
open_tables-seen-requires c =
    let b = (goal.at.open_tables-seen-requires c).After-find in
    levels-kept (whole b) c.requires.kept c.requires.memory (λ i. omega (arith, c.type_inv.memory i)) (λ i. omega (arith, c.type_inv.area i))

pub returns-then-seen : goal.returns-then-seen
returns-then-seen c =
    let a = c.args in
    let b = (goal.at.returns-then-seen c).After-find in
    let o = c.open_tables-seen.ensures in
    let h = sym c.find.ensures ∙ c.in_default.is in
    (rw (order b) (spot-place a.area.now a.memory.now a.key.value _ _ _ h (rw c.if-seen.true at o.found)), counted b _ h o)

pub returns : goal.returns
returns c =
    let a = c.args in
    let b = (goal.at.returns c).After-find in
    let o = c.open_tables-seen.ensures in
    let h = sym c.find.ensures ∙ c.in_default.is in
    (rw (order b) (spot-none a.area.now a.memory.now a.key.value _ h (rw c.if-seen.false at o.found)), counted b _ h o)
