-- Why a call is refused, and the number and the letter that it then has. A call that is accepted has number 0 and no letter.
use Rattle.std.specs.Prelude.{ℕ, Result, Ok, Err}
use Rattle.ldc.specs.Lent.{letter_a, letter_b, letter_c, letter_d, letter_e, letter_f, letter_g}
use Rattle.ldc.specs.Run.{accepted, wrong_sizes, bad_threshold, short_answer, broken_list, unsound, not_a_book, fewer_places}
use Rattle.wire.specs.declared.refusal.Rule.{Rule}
use Rattle.wire.specs.declared.refusal.Rule.TheVariants.{A, B, C, D, E, F, G}
use Rattle.wire.specs.declared.refusal.Refusal.{Refusal}
use Rattle.wire.specs.declared.refusal.Refusal.TheVariants.{WrongSizes, BadThreshold, ShortAnswer, BrokenList, Unsound, NotABook, FewerPlaces}

-- The letter of a rule.
abbrev pub rule_letter : Rule → ℕ
rule_letter A = letter_a
rule_letter B = letter_b
rule_letter C = letter_c
rule_letter D = letter_d
rule_letter E = letter_e
rule_letter F = letter_f
rule_letter G = letter_g

-- The number of a refusal.
abbrev pub refusal_number : Refusal → ℕ
refusal_number WrongSizes = wrong_sizes
refusal_number BadThreshold = bad_threshold
refusal_number ShortAnswer = short_answer
refusal_number BrokenList = broken_list
refusal_number (Unsound rule) = unsound
refusal_number NotABook = not_a_book
refusal_number FewerPlaces = fewer_places

-- The letter that comes with it.
abbrev pub refusal_letter : Refusal → ℕ
refusal_letter WrongSizes = 0
refusal_letter BadThreshold = 0
refusal_letter ShortAnswer = 0
refusal_letter BrokenList = 0
refusal_letter (Unsound rule) = rule_letter rule
refusal_letter NotABook = 0
refusal_letter FewerPlaces = 0

-- The number of a call that ended so, and the letter that comes with it.
abbrev pub number_of : {A : Type 0} → Result A Refusal → ℕ
number_of (Ok x) = accepted
number_of (Err refusal) = refusal_number refusal

abbrev pub letter_in : {A : Type 0} → Result A Refusal → ℕ
letter_in (Ok x) = 0
letter_in (Err refusal) = refusal_letter refusal
