-- `open_table` meets its contract: by the bits on the card the table is left out, or searched.
use Rattle.std.proofs.Common.{◌≡◌, [], ◌∷◌, refl, sym, ◌∙◌, ap}
use Rattle.table.specs.Table.{entries, place_of}
use Rattle.table.specs.Search.{find}
use Rattle.summary.specs.Summary.{bits_set}
use Rattle.read.specs.Found.{Hits}
use Rattle.read.proofs.Hits.{hit-found, hit-none, missed}
use Rattle.read.proofs.Shows.{table-shown}
use Rattle.read_get.specs.Opens.{the_hit, Opens}
use Rattle.read_get.specs.declared.opened.Opened.{Opened}
use Rattle.read_get.proofs.Opening.{bits_below, summary-shown, bits-shown, opens-clear, opens-set}
use Rattle.read_get.proofs.tables.open_table.Goals as goal
use Rattle.read_get.proofs.tables.open_table.Goals.{After-find}

pub may_hold-requires : goal.may_hold-requires
may_hold-requires c = bits_below _ _ c.requires.0.own

pub returns-then-not-may_hold : goal.returns-then-not-may_hold
returns-then-not-may_hold c =
    let a = c.args in
    opens-clear a.area.now a.cards.now a.key.value a.p _
    (sym (bits-shown a.area.now a.cards.now c.requires.0.legible a.p c.requires.1 a.key.value a.three c.requires.0.own)
    ∙ sym c.may_hold.ensures ∙ c.if-not-may_hold.true)
    record { missed = c.nothing.ensures.0; tables = c.nothing.ensures.1.0; bits = c.nothing.ensures.1.1 }

-- Searched, the table is opened.
opened : (c : After-find) (r : Opened)
    → let a = c.args in
    Hits a.area.now (find a.key.value (entries (place_of a.area.now a.p))) (the_hit r) → r.tables ≡ 1 → r.bits ≡ c.bits_set-bits.result
    → Opens a.area.now a.cards.now a.key.value (a.p ∷ []) r
opened c r t n e =
    let a = c.args in
    let g = c.requires.0.legible in
    opens-set a.area.now a.cards.now a.key.value a.p r
    (sym (bits-shown a.area.now a.cards.now g a.p c.requires.1 a.key.value a.three c.requires.0.own) ∙ sym c.may_hold.ensures
    ∙ c.if-not-may_hold.false)
    (rw (table-shown a.area.now a.cards.now g a.p) t) n
    (e ∙ c.bits_set-bits.ensures ∙ ap bits_set (summary-shown a.area.now a.cards.now g a.p c.requires.1))

pub returns-in_default : goal.returns-in_default
returns-in_default c =
    let a = c.args in
    opened (goal.at.returns-in_default c).After-find _ (hit-none a.area.now _ (missed a.area.now a.p a.key.value (sym c.find.ensures
    ∙ c.in_default.is))) refl refl

pub returns : goal.returns
returns c =
    let a = c.args in
    opened (goal.at.returns c).After-find _ (hit-found a.area.now a.p a.key.value _ c.requires.1.tabled (sym c.find.ensures ∙ c.in-Some.is)) refl refl
