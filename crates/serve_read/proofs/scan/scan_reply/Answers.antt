-- `scan_reply` meets its contract: the entries stand in the answer first, then count and more, then the head; together they are the
-- reply.
use Rattle.std.proofs.Common.{ℕ, ◌+◌, ◌*◌, ◌≤◌, List, take, ◌∙◌, arith}
use lib.Dec.{ltb}
use Rattle.table.specs.Limits.{entry_limit}
use Rattle.table.specs.Entry.{Entry}
use Rattle.ldc.specs.Store.{within}
use Rattle.ldc.specs.Lent.{Lent, store_of}
use Rattle.ldc.specs.Read.{contents, scan_limit}
use Rattle.ldc.specs.Request.{reply_head_size}
use Rattle.book.specs.Head.{head_words}
use Rattle.book.specs.Pieces.{lent}
use Rattle.read.proofs.Levels.{sound-kept}
use Rattle.read_iterator.proofs.Places.{whole-kept}
use Rattle.serve_read.specs.Scan.{Fills}
use Rattle.serve_read.proofs.Reply.{more-told, given-many, given-first, entries_fit, scan-refused, scan-done}
use Rattle.serve_read.proofs.Turn.{one-if}
use Rattle.serve_read.proofs.scan.scan_reply.Goals as goal
use Rattle.serve_read.proofs.scan.scan_reply.Goals.{After-copy_values-end}

pub returns-then-high-low : goal.returns-then-high-low
returns-then-high-low c =
    let a = c.args in
    scan-refused (store_of (lent a.area.now a.cards.now a.lists.now (head_words a.head) a.memory.now)) a.low.value a.high.value a.answer.now a.at
    c.write_head.new.answer (omega (arith, c.if-high-low.true)) c.write_head.ensures

-- The values of the range.
abbrev values : (m : Lent) (low high : ℕ) → List Entry
values m low high = within low high (contents (store_of m))

pub copy_values-end-requires : goal.copy_values-end-requires
copy_values-end-requires c =
    let a = c.args in
    let m = lent a.area.now a.cards.now a.lists.now (head_words a.head) a.memory.now in
    let t = c.next_values-found in
    let gives = given-first _ t.new.keys t.new.spots t.result (values m a.low.value a.high.value) t.ensures c.min-count.result
    c.min-count.ensures in (
      whole-kept m c.requires.0.kept c.requires.0.memory,
      (gives.seated, (omega (arith, c.min-count.ensures, t.auto.spots), (omega (arith, c.min-count.ensures), omega (arith, c.requires.1)))),
    )

-- The entries that were given are written, and fit the answer.
filled : (c : After-copy_values-end)
    → let a = c.args in
    let m = lent a.area.now a.cards.now a.lists.now (head_words a.head) a.memory.now in
    Fills (take scan_limit (values m a.low.value a.high.value)) (a.at + 10) a.answer.now c.copy_values-end.new.answer c.copy_values-end.result
filled c =
    let a = c.args in
    let m = lent a.area.now a.cards.now a.lists.now (head_words a.head) a.memory.now in
    let t = c.next_values-found in
    let gives = given-first _ t.new.keys t.new.spots t.result (values m a.low.value a.high.value) t.ensures c.min-count.result c.min-count.ensures in
    rw gives.shown at c.copy_values-end.ensures

short : (c : After-copy_values-end) → c.copy_values-end.result ≤ c.args.at + (reply_head_size + 4 + scan_limit * entry_limit)
short c =
    let a = c.args in
    let m = lent a.area.now a.cards.now a.lists.now (head_words a.head) a.memory.now in
    omega (
      arith,
      (filled c).ends,
      entries_fit (store_of m) a.low.value a.high.value
          (sound-kept m c.requires.0.kept c.requires.0.memory (λ i. omega (arith, c.type_inv.memory i)) (λ i. omega (arith, c.type_inv.area i))),
    )

pub write_head-requires-2 : goal.write_head-requires-2
write_head-requires-2 c = (
  omega (arith, c.put_numbers.auto.answer, c.copy_values-end.auto.answer, c.requires.1),
  omega (
    arith,
    short
        (goal.at.write_head-requires-2 c).After-copy_values-end,
  ),
)

pub returns : goal.returns
returns c =
    let a = c.args in
    let m = lent a.area.now a.cards.now a.lists.now (head_words a.head) a.memory.now in
    let t = c.next_values-found in
    let f = filled (goal.at.returns c).After-copy_values-end in
    let W = values m a.low.value a.high.value in
    scan-done (store_of m) a.low.value a.high.value a.answer.now a.at c.copy_values-end.new.answer c.write_head-2.new.answer
    c.min-count.result c.from.result c.copy_values-end.result (omega (arith, c.if-high-low.false)) f.written
    (given-many _ t.new.keys t.new.spots t.result W t.ensures c.min-count.result c.min-count.ensures) f.ends
    (c.from.ensures ∙ one-if (ltb scan_limit t.result) ∙ more-told _ t.new.keys t.new.spots t.result W t.ensures)
    (c.write_head-2.ensures ∙ rw c.put_numbers.ensures)
