-- A chosen table leaves its level, whose mark is set, and joins an empty one: the changed lists and head are lent of the store after it.
use Prim.Native.Nat.{ℕ, ◌≤◌, ◌<◌}
use mathlib.Core.Path.{◌≡◌, sym, ◌∙◌, ap}
use mathlib.Core.List.{List, [], ◌∷◌, ◌++◌, Memᴰ}
use native.Mathlib.Omega.{arith}
use borrow.Author.Tests.{eqb-true, eqb-false}
use lib.Dec.{eqb}
use lib.ListN.{length, set, length-append, length-set}
use lib.Seq.{get_or-set_same, get_or-set_other}
use Rattle.table.specs.Search.{greatest_key}
use Rattle.ldc.specs.Lists.{how_many}
use Rattle.ldc.specs.Store.{Store, size, card, links, bytes_at, table, level, with_level, with_marks}
use Rattle.ldc.specs.Layout.{level_count, length_word, length_in, items_in}
use Rattle.ldc.specs.Lent.{lent_of}
use Rattle.ldc.specs.Steps.{replaced, marks_after, leaves}
use Rattle.ldc.proofs.Basics.Cases.{cases}
use Rattle.ldc.proofs.Basics.Counts.{member-counted}
use Rattle.ldc.proofs.Basics.Replaced.{split}
use Rattle.ldc.proofs.Steps.Move.{length-marks_after}
use Rattle.book.specs.Head.{marked}
use Rattle.book.proofs.Heads.{with-mark}
use Rattle.book_edit.specs.Level.{Listing, with_items}
use Rattle.book_edit.specs.Shown.{Fits}
use Rattle.book_edit.proofs.Fitting.{listing-at, items_at, length-at, lists_at, head_at}

-- ---- leaving a level

module _ (s : Store) (f : Fits s) (n p : ℕ) (h : n < 3) (on : Memᴰ p (level s n)) where
  -- the store with the mark set
  abbrev chosen : Store
  chosen = with_marks (marks_after n p s) s

  fits-chosen : Fits chosen
  unfolding size bytes_at level links card
  fits-chosen = record {
    placed = f.placed;
    whole = f.whole;
    most = f.most;
    four = f.four;
    two = length-marks_after n p s ∙ f.two;
    listed = f.listed;
    few = f.few;
    turns = f.turns;
  }

  short : length (replaced p [] (level s n)) ≤ size s
  short =
      let t = split p (level s n) on in
      let a = ap length t.whole in
      let c = ap length (t.other []) in
      omega (arith, a, c, length-append t.front (p ∷ t.back), length-append t.front t.back, f.listed n)

  pub fits-left : Fits (leaves n p s)
  unfolding leaves size bytes_at level links card
  fits-left = record {
    placed = f.placed;
    whole = f.whole;
    most = f.most;
    four = length-set s.levels n _ ∙ f.four;
    two = length-marks_after n p s ∙ f.two;
    listed = λ j. cases (eqb j n)
        (λ q. let e : j ≡ n = eqb-true j n q in
        rw (e, get_or-set_same s.levels n (replaced p [] (level s n)) [] (omega (arith, f.four))) short)
        (λ q. rw (get_or-set_other s.levels n j (replaced p [] (level s n)) [] (eqb-false j n q)) (f.listed j));
    few = f.few;
    turns = f.turns;
  }

  module _ (many : ℕ) (lists head head₁ : List ℕ) (em : many ≡ size s) (el : lists ≡ (lent_of s).lists) (eh : head ≡ (lent_of s).head)
      (e₁ : head₁ ≡ marked n (greatest_key (table s p)) head) where
    four : n < level_count
    four = omega arith

    em₁ : many ≡ size chosen
    unfolding size
    em₁ = em

    el₁ : lists ≡ (lent_of chosen).lists
    unfolding lent_of
    el₁ = el

    eh₁ : head₁ ≡ (lent_of chosen).head
    eh₁ = e₁ ∙ ap (marked n (greatest_key (table s p))) eh ∙ sym (with-mark s f.two n p h)

    items : items_in many lists head₁ n ≡ level s n
    unfolding level
    items = items_at chosen fits-chosen n four many lists head₁ em₁ el₁ eh₁

    pub leave-ready : Listing n many lists head₁ × ((1 ≤ how_many (eqb p) (items_in many lists head₁ n)) × (length_in head₁ n ≤ many))
    leave-ready =
        let l = listing-at chosen fits-chosen n four many lists head₁ em₁ el₁ eh₁ in
        (l, (rw items (member-counted p (level s n) on), l.fits))

    pub left : (lists' head' : List ℕ)
        → lists' ≡ with_items n many (replaced p [] (items_in many lists head₁ n)) lists
        → head' ≡ set head₁ (length_word n) (length (replaced p [] (items_in many lists head₁ n)))
        → (lists' ≡ (lent_of (leaves n p s)).lists) × (head' ≡ (lent_of (leaves n p s)).head)
    unfolding leaves
    left lists' head' a b = (
      a ∙ ap (λ (xs : List ℕ). with_items n many (replaced p [] xs) lists) items
          ∙ lists_at chosen fits-chosen n four many lists head₁ em₁ el₁ eh₁ (replaced p [] (level s n)) (unfold size in short),
      b ∙ ap (λ (xs : List ℕ). set head₁ (length_word n) (length (replaced p [] xs))) items
          ∙ head_at chosen fits-chosen n four many lists head₁ em₁ el₁ eh₁ (replaced p [] (level s n)),
    )

-- ---- joining an empty level

module _ (s : Store) (f : Fits s) (n p : ℕ) (h : n < level_count) (empty : level s n ≡ [])
    (many : ℕ) (lists head : List ℕ) (em : many ≡ size s) (el : lists ≡ (lent_of s).lists) (eh : head ≡ (lent_of s).head) where
  no_items : items_in many lists head n ≡ []
  no_items = items_at s f n h many lists head em el eh ∙ empty

  some-place : 1 ≤ size s
  some-place = omega (arith, f.turns)

  pub join-ready : Listing n many lists head × (length_in head n < many)
  join-ready = (
    listing-at s f n h many lists head em el eh,
    omega (arith, length-at s f n h many lists head em el eh, ap length empty, some-place, em),
  )

  pub joined : (lists' head' : List ℕ)
      → lists' ≡ with_items n many (items_in many lists head n ++ p ∷ []) lists
      → head' ≡ set head (length_word n) (length (items_in many lists head n ++ p ∷ []))
      → (lists' ≡ (lent_of (with_level n (p ∷ []) s)).lists) × (head' ≡ (lent_of (with_level n (p ∷ []) s)).head)
  joined lists' head' a b = (
    a ∙ ap (λ (xs : List ℕ). with_items n many (xs ++ p ∷ []) lists) no_items ∙ lists_at s f n h many lists head em el eh (p ∷ []) (omega (arith, some-place)),
    b ∙ ap (λ (xs : List ℕ). set head (length_word n) (length (xs ++ p ∷ []))) no_items ∙ head_at s f n h many lists head em el eh (p ∷ []),
  )
