-- The letter of rules E, F and G, and of what a check found broken.
use Rattle.std.specs.Prelude.{ℕ, List, cond, Result, Ok, Err}
use Rattle.wire.specs.Refusal.{rule_letter}
use Rattle.wire.specs.declared.refusal.Rule.{Rule}
use Rattle.ldc.specs.Lent.{letter_e, letter_f, letter_g}
use Rattle.check_places.specs.Links.{walk_e, walk_f}
use Rattle.check_places.specs.Parts.{walk_g}

-- The letter of the first broken one of rules E, F and G, 0 where none is.
unfoldable pub rest_letter : (area : List ℕ) → (cards : List (List ℕ)) → (lists head : List ℕ) → ℕ
rest_letter area cards lists head =
    cond (walk_e area cards lists head) (cond (walk_f cards) (cond (walk_g area cards lists head) 0 letter_g) letter_f) letter_e

-- The letter of the rule that was found broken, 0 where none was.
abbrev pub broken_letter : {A : Type 0} → Result A Rule → ℕ
broken_letter (Ok x) = 0
broken_letter (Err rule) = rule_letter rule
