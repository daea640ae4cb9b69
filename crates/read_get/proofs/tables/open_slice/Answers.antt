-- `open_slice` meets its contract: where the range holds the key the frozen table is asked, else none is.
use Rattle.std.proofs.Common.{◌≡◌, true, false, ◌&&◌, leb, ◌∙◌}
use Rattle.coding.proofs.KeyLaws.{le_test}
use Rattle.book.specs.Row.{the_link}
use Rattle.read_get.proofs.Sources.{range-in, range-out}
use Rattle.read_get.proofs.tables.open_slice.Goals as goal

pub returns-then-le : goal.returns-then-le
returns-then-le c =
    let a = c.args in
    let low : c.le.result ≡ leb a.link.low.value a.key.value = c.le.ensures ∙ le_test _ _ in
    let high : c.le-2.result ≡ leb a.key.value a.link.high.value = c.le-2.ensures ∙ le_test _ _ in
    let h : (leb a.link.low.value a.key.value && leb a.key.value a.link.high.value) ≡ true = rw (← low, ← high) c.if-le.true in
    range-in a.area.now a.cards.now a.key.value (the_link a.link) _ h c.open_table.ensures

pub returns-else-le : goal.returns-else-le
returns-else-le c =
    let a = c.args in
    let low : c.le.result ≡ leb a.link.low.value a.key.value = c.le.ensures ∙ le_test _ _ in
    let high : c.le-2.result ≡ leb a.key.value a.link.high.value = c.le-2.ensures ∙ le_test _ _ in
    let h : (leb a.link.low.value a.key.value && leb a.key.value a.link.high.value) ≡ false = rw (← low, ← high) c.if-le.false in
    range-out a.area.now a.cards.now a.key.value (the_link a.link) _ h
    record { missed = c.nothing.ensures.0; tables = c.nothing.ensures.1.0; bits = c.nothing.ensures.1.1 }
