-- `open_own` meets its contract: found, the key is one that the span holds; not found, the span decides whether the table counts.
use Rattle.std.proofs.Common.{sym, ◌∙◌, arith}
use Rattle.coding.specs.Number.{Bytes}
use Rattle.read.proofs.Shows.{readable}
use Rattle.read_get.proofs.Sources.{own_in, own_out, own-settled}
use Rattle.read_get.proofs.tables.open_own.Goals as goal

pub returns-then-own : goal.returns-then-own
returns-then-own c =
    let a = c.args in
    let bytes : Bytes a.area.now = λ i. omega (arith, c.type_inv.area i) in
    own-settled a.area.now a.cards.now a.key.value a.p _
    (readable a.area.now a.cards.now c.requires.0.legible a.p bytes c.requires.1.tabled)
    c.open_table-own.ensures c.if-own.true

pub returns-then-span_holds : goal.returns-then-span_holds
returns-then-span_holds c =
    let a = c.args in
    own_in a.area.now a.cards.now a.key.value a.p _ (sym c.span_holds.ensures ∙ c.if-span_holds.true) c.open_table-own.ensures

pub returns-else-span_holds : goal.returns-else-span_holds
returns-else-span_holds c =
    let a = c.args in
    own_out a.area.now a.cards.now a.key.value a.p _ (sym c.span_holds.ensures ∙ c.if-span_holds.false)
    record { missed = c.nothing.ensures.0; tables = c.nothing.ensures.1.0; bits = c.nothing.ensures.1.1 }
