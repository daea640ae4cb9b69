-- `next_piece` meets its contract: the run over the rest of the list is a `Stretch`, and with the position that `skip` gives it is the next piece.
use Rattle.std.proofs.Common.{arith, refl, ap, ◌∙◌, ◌+◌}
use Rattle.store_run.specs.declared.Ran.{Ran}
use Rattle.book.specs.Pieces.{lent}
use Rattle.survey_deliver.proofs.Along.{reached-others}
use Rattle.survey_deliver.proofs.Stretch.{stretched, stretch-few, stretch-next, stretch-count, stretch-at, stretch-bytes}
use Rattle.survey_deliver.proofs.piece.next_piece.Goals as goal

pub slice_bounds-rest-count : goal.slice_bounds-rest-count
slice_bounds-rest-count c = (reached-others c.requires.0).0

pub slice_bounds-rest-start : goal.slice_bounds-rest-start
slice_bounds-rest-start c = (reached-others c.requires.0).0

pub overflow_add-result : goal.overflow_add-result
overflow_add-result c =
    let a = c.args in
    let z = c.go_on-turn.new in
    let x =
    stretched a.list.now (lent a.area.now a.rows.now a.lists.now a.head.now a.memory.now) a.from a.answer.now c.go_on-turn.result.ran c.of-ran.result
    (lent z.area z.rows z.lists z.head z.memory) z.answer c.of-ran.ensures c.requires.0 (λ i. omega (arith, c.type_inv.list i)) c.requires.1.0
    c.go_on-turn.ensures.0.0 in
    omega (arith, stretch-count x _ refl)

pub skip-requires : goal.skip-requires
skip-requires c =
    let a = c.args in
    let z = c.go_on-turn.new in
    let x =
    stretched a.list.now (lent a.area.now a.rows.now a.lists.now a.head.now a.memory.now) a.from a.answer.now c.go_on-turn.result.ran c.of-ran.result
    (lent z.area z.rows z.lists z.head z.memory) z.answer c.of-ran.ensures c.requires.0 (λ i. omega (arith, c.type_inv.list i)) c.requires.1.0
    c.go_on-turn.ensures.0.0 in
    stretch-few x

pub overflow_add-result-2 : goal.overflow_add-result-2
overflow_add-result-2 c =
    let a = c.args in
    let z = c.go_on-turn.new in
    let x =
    stretched a.list.now (lent a.area.now a.rows.now a.lists.now a.head.now a.memory.now) a.from a.answer.now c.go_on-turn.result.ran c.of-ran.result
    (lent z.area z.rows z.lists z.head z.memory) z.answer c.of-ran.ensures c.requires.0 (λ i. omega (arith, c.type_inv.list i)) c.requires.1.0
    c.go_on-turn.ensures.0.0 in
    omega (arith, stretch-at x _ c.skip.ensures, c.well_formed)

pub overflow_add-result-3 : goal.overflow_add-result-3
overflow_add-result-3 c =
    let a = c.args in
    let z = c.go_on-turn.new in
    let x =
    stretched a.list.now (lent a.area.now a.rows.now a.lists.now a.head.now a.memory.now) a.from a.answer.now c.go_on-turn.result.ran c.of-ran.result
    (lent z.area z.rows z.lists z.head z.memory) z.answer c.of-ran.ensures c.requires.0 (λ i. omega (arith, c.type_inv.list i)) c.requires.1.0
    c.go_on-turn.ensures.0.0 in
    omega (arith, stretch-bytes x _ refl)

-- Field by field, so that each is a fact of its own.
pub returns : goal.returns
returns c =
    let a = c.args in
    let z = c.go_on-turn.new in
    let x =
    stretched a.list.now (lent a.area.now a.rows.now a.lists.now a.head.now a.memory.now) a.from a.answer.now c.go_on-turn.result.ran c.of-ran.result
    (lent z.area z.rows z.lists z.head z.memory) z.answer c.of-ran.ensures c.requires.0 (λ i. omega (arith, c.type_inv.list i)) c.requires.1.0
    c.go_on-turn.ensures.0.0 in
    let next = stretch-next x c.skip.result c.skip.ensures in
    let same = c.of-ran.ensures in (
      record {
        numbered = next.numbered;
        left = next.left;
        answered = next.answered;
        measured = rw same at next.measured;
        served = next.served;
        passed = next.passed;
        handed = next.handed ∙ ap (λ (y : Ran). a.from.written + y.written) same;
      },
      c.go_on-turn.ensures.1,
    )
