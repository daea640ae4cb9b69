-- `probe_reply` meets its contract: the reply is that of the entry at the spot, with the counts that the walk gave.
use Rattle.std.proofs.Common.{arith}
use Rattle.ldc.specs.Lent.{Lent, store_of}
use Rattle.ldc.proofs.Stores.Sound.{Sound}
use Rattle.book.specs.Head.{head_words}
use Rattle.book.specs.Pieces.{lent}
use Rattle.read.proofs.Levels.{sound-kept}
use Rattle.serve_read.proofs.Probed.{probe_found, probe-missed, tables-fit, bits_fit}
use Rattle.serve_read.proofs.probe.probe_reply.Goals as goal
use Rattle.serve_read.proofs.probe.probe_reply.Goals.{After-probe-told}

-- What is lent, and that it is sound.
abbrev found : After-probe-told → Lent
found c = lent c.args.area.now c.args.cards.now c.args.lists.now (head_words c.args.head) c.args.memory.now

sound : (c : After-probe-told) → Sound (store_of (found c))
sound c =
    sound-kept (found c) c.requires.0.kept c.requires.0.memory (λ i. omega (arith, c.type_inv.memory i)) (λ i. omega (arith, c.type_inv.area i))

pub overflow_cast-tables : goal.overflow_cast-tables
overflow_cast-tables c =
    let b = (goal.at.overflow_cast-tables c).After-probe-told in
    record { fits = tables-fit (store_of (found b)) (sound b) c.args.key.value _ c.probe-told.ensures.1.0 }

pub overflow_cast-bits : goal.overflow_cast-bits
overflow_cast-bits c =
    let b = (goal.at.overflow_cast-bits c).After-probe-told in
    record { fits = bits_fit (store_of (found b)) (sound b) c.args.key.value _ c.probe-told.ensures.1.1 }

pub returns-in-Some-Memory : goal.returns-in-Some-Memory
returns-in-Some-Memory c =
    let b = (goal.at.returns-in-Some-Memory c).After-probe-told in
    let is = rw c.in-Some-Memory.is at c.in-Some-Memory.field-0-is in
    let t = rw (c.in-Some-Memory.is, is) at c.probe-told.ensures.0 in
    rw (probe_found (store_of (found b)) c.args.key.value _ _ c.probe-told.ensures.1.0 c.probe-told.ensures.1.1 _ t.shown) c.decided_reply.ensures

pub returns-in-Some-Place : goal.returns-in-Some-Place
returns-in-Some-Place c =
    let b = (goal.at.returns-in-Some-Place c).After-probe-told in
    let is = rw c.in-Some-Place.is at c.in-Some-Place.field-0-is in
    let t = rw (c.in-Some-Place.is, is) at c.probe-told.ensures.0 in
    let same = c.bytes_of.ensures.0 in
    let r = c.decided_reply-in-Some-Place.ensures in
    rw (probe_found (store_of (found b)) c.args.key.value _ _ c.probe-told.ensures.1.0 c.probe-told.ensures.1.1 _ t.shown) (rw same at r)

pub returns-in-None : goal.returns-in-None
returns-in-None c =
    let b = (goal.at.returns-in-None c).After-probe-told in
    let t = rw c.in-None.is at c.probe-told.ensures.0 in
    rw (probe-missed (store_of (found b)) c.args.key.value _ _ c.probe-told.ensures.1.0 c.probe-told.ensures.1.1 t.shown) c.missed_reply.ensures
