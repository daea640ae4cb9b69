-- A buffer of `longest_book` bytes has room for the book of every sound store of as many places: a card has at most eight links, the four lists
-- together name each place at most once, and there are at most sixteen memory entries.
use Prim.Native.Nat.{ℕ, ◌+◌, ◌*◌, ◌≤◌}
use mathlib.Core.Path.{◌≡◌, ◌∙◌}
use mathlib.Core.Bool.{Bool, true, false, cond}
use mathlib.Core.List.{List, [], ◌∷◌, map}
use native.Mathlib.Omega.{arith}
use lib.ListN.{length, length-append}
use Rattle.coding.proofs.NumberLaws.{length-bytes_of}
use Rattle.table.proofs.Decode.{entries-short}
use Rattle.ldc.specs.Lists.{flat}
use Rattle.ldc.specs.Store.{Store, size, card, is_live}
use Rattle.ldc.specs.Rules.{times_listed}
use Rattle.ldc.proofs.Basics.ListLaws.{at_most}
use Rattle.ldc.proofs.Stores.Sound.{Sound}
use Rattle.ldc.proofs.Stores.SoundRules.{beyond}
use Rattle.saved_book.specs.Saved.{number_bytes, mark_bytes, card_bytes, list_bytes, memory_bytes, field_bytes, saved_bytes}
use Rattle.saved_book.specs.Calls.{longest_book}
use Rattle.saved_book.proofs.Shown.{length-items_bytes}
use Rattle.saved_book.proofs.Fitting.{length-mark_bytes, flat-short, card-short}

at_most_one : (b : Bool) → cond b 1 0 ≤ 1
at_most_one true = omega arith
at_most_one false = omega arith

-- Lists after their counts: two bytes for each, and two for each item.
length-lists : (pss : List (List ℕ)) → length (flat (map list_bytes pss)) ≡ 2 * length pss + 2 * length (flat pss)
unfolding list_bytes number_bytes
length-lists [] = omega arith
length-lists (ps ∷ pss) =
    simp (length-append, length-bytes_of)
    (omega (arith, length-lists pss, length-items_bytes ps, length-append ps (flat pss)))

module _ (s : Store) (so : Sound s) where
  listed-once : length (flat s.levels) ≤ size s
  unfolding times_listed
  listed-once =
      at_most (size s) (flat s.levels)
      (λ p. omega (arith, so.listed p, at_most_one (is_live (card s p))))
      (λ p h. so.listed p ∙ rw (beyond s p h))

  pub longest-enough : length (saved_bytes s) ≤ longest_book (size s)
  unfolding saved_bytes field_bytes number_bytes memory_bytes longest_book size
  longest-enough =
      let marks = flat-short mark_bytes 10 s.marks (λ o m. omega (arith, length-mark_bytes o)) in
      let cards = flat-short card_bytes 164 s.cards (card-short s so) in
      let lists = length-lists s.levels in
      let once : length (flat s.levels) ≤ length s.cards = listed-once in
      let es = entries-short s.memory so.memory.values in
      simp (length-append, length-bytes_of)
      (omega (arith, so.two, so.four, so.memory.few))
