-- `longest` meets its contract: the same sum.
use native.Mathlib.Omega.{arith}
use borrow.Author.Rules.{rules}
use Rattle.saved_book.specs.Calls.{longest_book}
use Rattle.history_grown.proofs.longest.Statement.{statement}
use Rattle.history_grown.proofs.longest.Tie as tie

mul-cards : tie.Need-overflow_mul-cards
mul-cards c = search rules

add-cards : tie.Need-overflow_add-cards
add-cards c = search rules

mul-cards-2 : tie.Need-overflow_mul-cards-2
mul-cards-2 c = search rules

mul-lists : tie.Need-overflow_mul-lists
mul-lists c = search rules

mul-lists-2 : tie.Need-overflow_mul-lists-2
mul-lists-2 c = search rules

add-lists : tie.Need-overflow_add-lists
add-lists c = search rules

mul-result : tie.Need-overflow_mul-result
mul-result c = search rules

add-result : tie.Need-overflow_add-result
add-result c = search rules

add-result-2 : tie.Need-overflow_add-result-2
add-result-2 c = search rules

add-result-3 : tie.Need-overflow_add-result-3
add-result-3 c = search rules

add-result-4 : tie.Need-overflow_add-result-4
add-result-4 c = search rules

returns : tie.Need-returns
unfolding longest_book
returns c = omega arith

pub longest_spec : {M : Type 1} → statement M
longest_spec =
    tie.close (tie.spec mul-cards add-cards mul-cards-2 mul-lists mul-lists-2 add-lists mul-result add-result add-result-2 add-result-3 add-result-4 returns)
