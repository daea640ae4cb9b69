-- The head as ten words: threshold, cursor, flag and key of the marks of levels 1 and 2, the lengths of lists 0 to 3.
use Rattle.std.specs.Prelude as code
use Rattle.std.specs.Prelude.{ℕ, zero, suc, ◌*◌, List, [], ◌∷◌, get_or}
use Rattle.std.proofs.Math.Option.{Option, some, none}
use Rattle.std.proofs.lemmas.List.Edits.{sets}
use Rattle.ldc.specs.Layout.{marks_of}
use Rattle.book.specs.declared.head.Head.{Head}
use Rattle.coding.specs.declared.key.Key.{Key}

abbrev pub head_words : Head → List ℕ
head_words h =
    h.threshold ∷ h.position.cursor
    ∷ h.position.flag1 ∷ h.position.key1.value ∷ h.position.flag2 ∷ h.position.key2.value
    ∷ h.length0 ∷ h.length1 ∷ h.length2 ∷ h.length3 ∷ []

-- A mark, as the definition has it.
abbrev pub the_mark : code.Option Key → Option ℕ
the_mark (code.Some k) = some k.value
the_mark code.None = none

-- The mark of a level that the words say. Level 0 has none.
unfoldable pub mark_in : List ℕ → (level : ℕ) → Option ℕ
mark_in words zero = none
mark_in words (suc n) = get_or (marks_of words) n none

-- The words with the mark of level 1 or 2 at a key; level 0 has none.
unfoldable pub marked : (level key : ℕ) → List ℕ → List ℕ
marked zero k words = words
marked (suc n) k words = sets words (2 * suc n) (1 ∷ k ∷ [])
