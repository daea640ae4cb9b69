-- The head's words and the store's fields: read, and with one of them changed.
use Prim.Native.Nat.{ℕ, zero, suc, ◌+◌, ◌*◌, ◌<◌}
use mathlib.Core.Path.{◌≡◌, refl, sym, ◌∙◌, ap}
use mathlib.Core.List.{List, [], ◌∷◌, ◌++◌, map}
use mathlib.Core.Option.{Option, some, none}
use native.Mathlib.Omega.{arith}
use lib.ListN.{length, get_or, set}
use lib.Seq.{sets, get_or-append-add}
use Rattle.table.specs.Search.{greatest_key}
use Rattle.ldc.specs.Lists.{flat}
use Rattle.ldc.specs.Store.{Store, mark, level, table, with_marks}
use Rattle.ldc.specs.Lent.{Lent, list_length, store_of, lent_of}
use Rattle.ldc.specs.Steps.{marks_after}
use Rattle.ldc.proofs.Basics.ListLaws.{spell, get_d_map}
use Rattle.ldc.proofs.Lent.Parts.{marks-read, length-marks}
use Rattle.ldc.specs.Layout.{mark_words, marks_of, length_in}
use Rattle.book.specs.Head.{mark_in, marked}

-- Only levels 1 and 2 have a mark.
pub mark-none : (words : List ℕ) (n : ℕ) → (n ≡ 1 → ⊥) → (n ≡ 2 → ⊥) → mark_in words n ≡ none
unfolding mark_in
mark-none words zero a b = refl
mark-none words (suc zero) a b = absurd (a refl)
mark-none words (suc (suc zero)) a b = absurd (b refl)
mark-none words (suc (suc (suc n))) a b = refl

-- ---- the store that lent words show

module _ (m : Lent) where
  pub shown-threshold : (store_of m).threshold ≡ get_or m.head 0 0
  unfolding store_of
  shown-threshold = refl

  pub shown-cursor : (store_of m).cursor ≡ get_or m.head 1 0
  unfolding store_of
  shown-cursor = refl

  pub shown-mark : (n : ℕ) → mark (store_of m) n ≡ mark_in m.head n
  unfolding mark store_of mark_in
  shown-mark zero = refl
  shown-mark (suc n) = refl

  pub shown-length : (n : ℕ) → list_length m n ≡ length_in m.head n
  shown-length n = refl

-- ---- the words of a store

module _ (s : Store) where
  pub words-threshold : get_or (lent_of s).head 0 0 ≡ s.threshold
  unfolding lent_of
  words-threshold = refl

  pub words-cursor : get_or (lent_of s).head 1 0 ≡ s.cursor
  unfolding lent_of
  words-cursor = refl

set_first : (t c k : ℕ) (a b : Option ℕ) (rest : List ℕ)
    → sets (t ∷ c ∷ (flat (map mark_words (a ∷ b ∷ [])) ++ rest)) 2 (1 ∷ k ∷ []) ≡ t ∷ c ∷ (flat (map mark_words (some k ∷ b ∷ [])) ++ rest)
set_first t c k none b rest = refl
set_first t c k (some j) b rest = refl

set-second : (t c k : ℕ) (a b : Option ℕ) (rest : List ℕ)
    → sets (t ∷ c ∷ (flat (map mark_words (a ∷ b ∷ [])) ++ rest)) 4 (1 ∷ k ∷ []) ≡ t ∷ c ∷ (flat (map mark_words (a ∷ some k ∷ [])) ++ rest)
set-second t c k none none rest = refl
set-second t c k none (some j) rest = refl
set-second t c k (some i) none rest = refl
set-second t c k (some i) (some j) rest = refl

set-mark : (t c k n : ℕ) (ms : List (Option ℕ)) (rest : List ℕ) → length ms ≡ 2 → n < 2
    → sets (t ∷ c ∷ (flat (map mark_words ms) ++ rest)) (2 * suc n) (1 ∷ k ∷ []) ≡ t ∷ c ∷ (flat (map mark_words (set ms n (some k))) ++ rest)
set-mark t c k n [] rest two h = absurd (omega arith)
set-mark t c k n (a ∷ []) rest two h = absurd (omega arith)
set-mark t c k zero (a ∷ b ∷ []) rest two h = set_first t c k a b rest
set-mark t c k (suc zero) (a ∷ b ∷ []) rest two h = set-second t c k a b rest
set-mark t c k (suc (suc n)) (a ∷ b ∷ []) rest two h = absurd (omega arith)
set-mark t c k n (a ∷ b ∷ d ∷ ms) rest two h = absurd (omega arith)

module _ (s : Store) (two : length s.marks ≡ 2) where
  pub words-marks : marks_of (lent_of s).head ≡ s.marks
  unfolding lent_of
  words-marks = rw (spell 2 none s.marks two) (marks-read _ _ _)

  pub words-mark : (n : ℕ) → mark_in (lent_of s).head n ≡ mark s n
  unfolding mark_in mark
  words-mark zero = refl
  words-mark (suc n) = ap (λ ms. get_or ms n none) words-marks

  -- The word of a level's length stands behind the marks.
  length-word : (n : ℕ) → 6 + n ≡ suc (suc (length (flat (map mark_words s.marks)) + n))
  length-word n = omega (arith, length-marks s.marks)

  pub words-length : (n : ℕ) → n < length s.levels → length_in (lent_of s).head n ≡ length (level s n)
  unfolding lent_of level
  words-length n h =
      rw (length-word n)
      (get_or-append-add (flat (map mark_words s.marks)) (map (λ ps. length ps) s.levels) n 0
      ∙ get_d_map (λ ps. length ps) s.levels n [] 0 h)

  -- The mark that a choice leaves.
  pub with-mark : (n p : ℕ) → n < 3 → (lent_of (with_marks (marks_after n p s) s)).head ≡ marked n (greatest_key (table s p)) (lent_of s).head
  unfolding lent_of marked
  with-mark zero p h = refl
  with-mark (suc n) p h = sym (set-mark s.threshold s.cursor (greatest_key (table s p)) n s.marks _ two (omega arith))
