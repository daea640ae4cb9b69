-- `holds` meets its contract: of the spans of the level only that of the table at the rank can hold the key.
use Rattle.std.proofs.Common.{leb, get_or, sym, ◌∙◌, ap, arith}
use Rattle.coding.specs.Number.{Bytes}
use Rattle.ldc.specs.Store.{span_start}
use Rattle.book.specs.Rows.{shown_by}
use Rattle.read.proofs.Holds.{holds-none, holds_at}
use Rattle.read.proofs.Rank.{spans}
use Rattle.read.proofs.level.holds.Goals as goal

pub returns-then-items-at : goal.returns-then-items-at
returns-then-items-at c =
    let a = c.args in
    let f = c.count_passed-at in
    sym (holds-none (shown_by a.area.now a.cards.now) a.key.value a.items.now (omega (arith, f.ensures, c.if-items-at.true)))

pub returns : goal.returns
returns c =
    let a = c.args in
    let s = shown_by a.area.now a.cards.now in
    let bytes : Bytes a.area.now = λ i. omega (arith, c.type_inv.area i) in
    let at = c.count_passed-at.ensures in
    c.starts_by.ensures
    ∙ ap (λ p. leb (span_start s p) a.key.value) c.from.ensures
    ∙ ap (λ i. leb (span_start s (get_or a.items.now i 0)) a.key.value) at
    ∙ sym (holds_at s 0 a.key.value a.items.now (spans a.area.now a.cards.now a.items.now bytes c.requires.0 c.requires.1)
    (omega (arith, at, c.if-items-at.false)))
