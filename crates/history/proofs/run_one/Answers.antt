-- `run_one` meets its contract: list and buffer are the parts that the definition cuts out. A run that is ready has good ends, and room for
-- its number.
use Rattle.std.proofs.Common.{arith, ℕ, ◌+◌, ◌-◌, ◌≤◌, get_or, length, ◌∙◌}
use Rattle.coding.proofs.Sets.{length_part}
use Rattle.wire.specs.Refusal.{number_of}
use Rattle.book.specs.Pieces.{lent}
use Rattle.history_lists.proofs.Starts.{ready-room, ready-list, ready-buffer}
use Rattle.history.proofs.One.{ran-one}
use Rattle.history.proofs.run_one.Goals as goal

pub start-from-requires : goal.start-from-requires
start-from-requires c = omega (arith, (ready-list _ _ _ _ _ _ c.requires).there)

pub offset_bounds-ends-k : goal.offset_bounds-ends-k
offset_bounds-ends-k c = omega (arith, (ready-list _ _ _ _ _ _ c.requires).there, c.well_formed)

pub bounds-ends-k : goal.bounds-ends-k
bounds-ends-k c = (ready-list _ _ _ _ _ _ c.requires).there

pub start-first-requires : goal.start-first-requires
start-first-requires c = omega (arith, (ready-buffer _ _ _ _ _ _ c.requires).there)

pub offset_bounds-stops-k : goal.offset_bounds-stops-k
offset_bounds-stops-k c = omega (arith, (ready-buffer _ _ _ _ _ _ c.requires).there, c.well_formed)

pub bounds-stops-k : goal.bounds-stops-k
bounds-stops-k c = (ready-buffer _ _ _ _ _ _ c.requires).there

pub slice_bounds-run-count : goal.slice_bounds-run-count
slice_bounds-run-count c = omega (arith, (ready-list _ _ _ _ _ _ c.requires).rises, c.start-from.ensures)

pub slice_bounds-run-start : goal.slice_bounds-run-start
slice_bounds-run-start c =
    let e = ready-list _ _ _ _ _ _ c.requires in
    omega (arith, e.rises, e.within, c.start-from.ensures)

pub slice_bounds-run-end : goal.slice_bounds-run-end
slice_bounds-run-end c =
    let e = ready-list _ _ _ _ _ _ c.requires in
    omega (arith, e.rises, e.within, c.start-from.ensures)

pub slice_bounds-run-count-2 : goal.slice_bounds-run-count-2
slice_bounds-run-count-2 c = omega (arith, (ready-buffer _ _ _ _ _ _ c.requires).rises, c.start-first.ensures)

pub slice_bounds-run-start-2 : goal.slice_bounds-run-start-2
slice_bounds-run-start-2 c =
    let e = ready-buffer _ _ _ _ _ _ c.requires in
    omega (arith, e.rises, e.within, c.start-first.ensures)

pub slice_bounds-run-end-2 : goal.slice_bounds-run-end-2
slice_bounds-run-end-2 c =
    let e = ready-buffer _ _ _ _ _ _ c.requires in
    omega (arith, e.rises, e.within, c.start-first.ensures)

pub offset_bounds-served-k : goal.offset_bounds-served-k
offset_bounds-served-k c = omega (arith, ready-room _ _ _ _ _ _ c.requires, c.well_formed)

pub bounds-served-k : goal.bounds-served-k
bounds-served-k c = ready-room _ _ _ _ _ _ c.requires

-- The buffer comes back as long as it was.
pub returns : goal.returns
returns c =
    let a = c.args in
    let e = ready-buffer _ _ _ _ _ _ c.requires in
    let size : ℕ = get_or a.stops.now a.k 0 - c.start-first.result in
    let fits : c.start-first.result + size ≤ length a.answers.now = omega (arith, e.rises, e.within, c.start-first.ensures) in
    let done = c.run-done.new in
    ran-one (lent a.area.now a.cards.now a.lists.now a.head.now a.memory.now) a.input.now a.ends.now a.answers.now a.stops.now a.served.now a.k
    c.start-from.result c.start-first.result c.start-from.ensures c.start-first.ensures e (number_of c.run-done.result) c.of.result.served
    c.of.result.written (lent done.area done.cards done.lists done.head done.memory) done.answer
    (c.run-done.auto.answer ∙ length_part a.answers.now c.start-first.result size fits) (rw c.of.ensures c.run-done.ensures.0)
