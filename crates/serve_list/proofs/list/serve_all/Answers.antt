-- `serve_all` meets its contract, by the laws of what lies ahead of a run (`Goes`).
use Prim.Native.Nat.{◌+◌}
use mathlib.Core.Path.{◌≡◌, refl, ◌∙◌}
use native.Mathlib.Omega.{arith}
use Rattle.coding.specs.Number.{Bytes}
use Rattle.table.specs.Entry.{length_at}
use Rattle.book.specs.Head.{head_words}
use Rattle.book.specs.Pieces.{lent}
use Rattle.wire.proofs.Splits.{whole-fits}
use Rattle.book_edit.proofs.Keeping.{shape_of}
use Rattle.serve_list.proofs.Ahead.{Goes, goes-start, whole-there, goes_on, goes_end, goes-stop}
use Rattle.serve_list.proofs.list.serve_all.Goals as goal
use Rattle.serve_list.proofs.list.serve_all.Goals.{After-serve_next-turn}

pub loop-at-init : goal.loop-at-init
loop-at-init c =
    let a = c.args in
    let m = lent a.area.now a.cards.now a.lists.now (head_words a.head) a.memory.now in
    let sh = shape_of m c.requires.0.wide refl c.requires.0.memory (λ i. omega (arith, c.slice_known-3-1.given i)) (λ i. omega (arith, c.slice_known-1.given i)) in
    (goes-start m a.list.now a.answer.now sh c.requires.0.kept c.requires.1, (refl, (refl, (refl, (refl, refl)))))

-- One more request.
next : (c : After-serve_next-turn)
    → Bytes c.serve_next-turn.new.area
    → let l = c.loop-at in
    let a = c.args in
    Goes (lent a.area.now a.cards.now a.lists.now (head_words a.head) a.memory.now) a.list.now a.answer.now
    (lent c.serve_next-turn.new.area c.serve_next-turn.new.cards c.serve_next-turn.new.lists (head_words c.serve_next-turn.result.head) c.serve_next-turn.new.memory)
    c.serve_next-turn.new.answer c.serve_next-turn.result.suspect (l.at + length_at a.list.now l.at) (l.served + 1) (l.written + c.serve_next-turn.result.written)
next c bytes =
    goes_on c.loop-at.invariant.0 c.loop-at-test.true (λ k. omega (arith, c.shared_slice_known-1.given k)) (omega arith)
    _ _ _ c.serve_next-turn.ensures.0 bytes _ c.serve_next-turn.ensures.1

pub overflow_sub-answer : goal.overflow_sub-answer
overflow_sub-answer c = c.loop-at.invariant.0.room

pub shape_of-area-then-answer-written-lt-ROOM : goal.shape_of-area-then-answer-written-lt-ROOM
shape_of-area-then-answer-written-lt-ROOM c = c.loop-at.invariant.1.0

pub shape_of-cards-then-answer-written-lt-ROOM : goal.shape_of-cards-then-answer-written-lt-ROOM
shape_of-cards-then-answer-written-lt-ROOM c = c.loop-at.invariant.1.1.0

pub shape_of-lists-then-answer-written-lt-ROOM : goal.shape_of-lists-then-answer-written-lt-ROOM
shape_of-lists-then-answer-written-lt-ROOM c = c.loop-at.invariant.1.1.1.0

pub shape_of-memory-then-answer-written-lt-ROOM : goal.shape_of-memory-then-answer-written-lt-ROOM
shape_of-memory-then-answer-written-lt-ROOM c = c.loop-at.invariant.1.1.1.1.0

pub shape_of-answer-then-answer-written-lt-ROOM : goal.shape_of-answer-then-answer-written-lt-ROOM
shape_of-answer-then-answer-written-lt-ROOM c = c.loop-at.invariant.1.1.1.1.1

pub shape_of-area : goal.shape_of-area
shape_of-area c = c.loop-at.invariant.1.0

pub shape_of-cards : goal.shape_of-cards
shape_of-cards c = c.loop-at.invariant.1.1.0

pub shape_of-lists : goal.shape_of-lists
shape_of-lists c = c.loop-at.invariant.1.1.1.0

pub shape_of-memory : goal.shape_of-memory
shape_of-memory c = c.loop-at.invariant.1.1.1.1.0

pub shape_of-answer : goal.shape_of-answer
shape_of-answer c = c.loop-at.invariant.1.1.1.1.1

pub returns-then-answer-written-lt-ROOM : goal.returns-then-answer-written-lt-ROOM
returns-then-answer-written-lt-ROOM c = goes-stop c.loop-at.invariant.0 c.loop-at-test.true c.if-answer-written-lt-ROOM.true

pub serve_next-turn-requires : goal.serve_next-turn-requires
serve_next-turn-requires c =
    let g = c.loop-at.invariant.0 in
    (record { wide = g.shape.rows; memory = g.shape.memory; kept = g.kept }, (whole-there g c.loop-at-test.true, (omega (arith, g.room), g.calm)))

pub overflow_add-written : goal.overflow_add-written
overflow_add-written c =
    let n = next (goal.at.overflow_add-written c).After-serve_next-turn (λ k. omega (arith, c.slice_known-in-loop-at-1.given k)) in
    omega (arith, n.room, c.serve_next-turn.auto.answer, c.loop-at.invariant.1.1.1.1.1, c.well_formed)

pub overflow_add-served : goal.overflow_add-served
overflow_add-served c =
    let n = next (goal.at.overflow_add-served c).After-serve_next-turn (λ k. omega (arith, c.slice_known-in-loop-at-1.given k)) in
    omega (arith, n.counted, n.within, c.well_formed)

pub length_at-requires : goal.length_at-requires
length_at-requires c = omega (arith, (whole-fits _ _ (whole-there c.loop-at.invariant.0 c.loop-at-test.true)).0)

pub overflow_cast-at : goal.overflow_cast-at
overflow_cast-at c =
    omega (arith, (next (goal.at.overflow_cast-at c).After-serve_next-turn (λ k. omega (arith, c.slice_known-in-loop-at-1.given k))).within, c.length_at.ensures, c.well_formed)

pub overflow_add-at : goal.overflow_add-at
overflow_add-at c =
    omega (arith, (next (goal.at.overflow_add-at c).After-serve_next-turn (λ k. omega (arith, c.slice_known-in-loop-at-1.given k))).within, c.length_at.ensures, c.well_formed)

pub loop-at-smaller : goal.loop-at-smaller
loop-at-smaller c =
    omega (arith, c.length_at.ensures, (whole-fits _ _ (whole-there c.loop-at.invariant.0 c.loop-at-test.true)).1, c.loop-at-test.true)

pub loop-at-preserved : goal.loop-at-preserved
loop-at-preserved c =
    let l = c.loop-at in
    let k = c.serve_next-turn.auto in (
      rw c.length_at.ensures (next (goal.at.loop-at-preserved c).After-serve_next-turn (λ k. omega (arith, c.slice_known-in-loop-at-1.given k))),
      (k.area ∙ l.invariant.1.0, (k.cards ∙ l.invariant.1.1.0, (k.lists ∙ l.invariant.1.1.1.0, (k.memory ∙ l.invariant.1.1.1.1.0, k.answer ∙ l.invariant.1.1.1.1.1)))),
    )

pub returns : goal.returns
returns c = goes_end c.loop-at.invariant.0 c.loop-at-test.false
