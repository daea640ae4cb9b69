-- `lists_length` meets its contract: four counts, and two bytes an item.
use native.Mathlib.Omega.{arith}
use Rattle.saved_write.proofs.lengths.lists_length.Goals as goal

pub overflow_add-result : goal.overflow_add-result
overflow_add-result c =
    let fit = c.requires in
    omega (arith, fit 0 (omega arith), fit 1 (omega arith), fit 2 (omega arith), fit 3 (omega arith))

pub overflow_add-result-2 : goal.overflow_add-result-2
overflow_add-result-2 c =
    let fit = c.requires in
    omega (arith, fit 0 (omega arith), fit 1 (omega arith), fit 2 (omega arith), fit 3 (omega arith))

pub overflow_add-result-3 : goal.overflow_add-result-3
overflow_add-result-3 c =
    let fit = c.requires in
    omega (arith, fit 0 (omega arith), fit 1 (omega arith), fit 2 (omega arith), fit 3 (omega arith))

pub overflow_add-result-4 : goal.overflow_add-result-4
overflow_add-result-4 c =
    let fit = c.requires in
    omega (arith, fit 0 (omega arith), fit 1 (omega arith), fit 2 (omega arith), fit 3 (omega arith))

pub overflow_mul-result : goal.overflow_mul-result
overflow_mul-result c =
    let fit = c.requires in
    omega (arith, fit 0 (omega arith), fit 1 (omega arith), fit 2 (omega arith), fit 3 (omega arith))

pub returns : goal.returns
returns c =
    let fit = c.requires in
    (omega arith, omega (arith, fit 0 (omega arith), fit 1 (omega arith), fit 2 (omega arith), fit 3 (omega arith)))
