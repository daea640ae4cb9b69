-- The examples of docs/FORMATS.md.
use Rattle.std.specs.Prelude.{List, [], ◌∷◌}
use Rattle.std.proofs.Math.Option.{some, none}
use Rattle.table.specs.Entry.{Entry}

-- The value "A" under key 5.
abbrev pub a_under5 : Entry
a_under5 = record { key = 5; value = some (65 ∷ []) }

-- The delete mark under key 7.
abbrev pub mark_under7 : Entry
mark_under7 = record { key = 7; value = none }

-- The table of the two.
abbrev pub the_two : List Entry
the_two = a_under5 ∷ mark_under7 ∷ []
