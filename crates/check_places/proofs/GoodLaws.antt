-- Whether a link is good by itself, test after test, its number last; and that a frozen place holds a table where rule C is kept.
use Prim.Native.Nat.{ℕ, ◌≤◌, ◌<◌}
use mathlib.Core.Path.{◌≡◌, refl, sym}
use mathlib.Core.Bool.{true, false, not, ◌&&◌, ◌||◌, and-false, true≢false}
use mathlib.Core.List.{List, [], ◌∷◌}
use borrow.Author.Tests.{le-leb, lt-leb, eqb-true}
use lib.Dec.{leb, eqb, eqb-zero-suc}
use lib.ListN.{length, get_or}
use Rattle.table.specs.Entry.{Entry}
use Rattle.table.specs.Table.{entries, is_table, place_of}
use Rattle.table.specs.Search.{count_within}
use Rattle.table.proofs.Tests.{and_parts, cases}
use Rattle.ldc.specs.Lists.{is_empty}
use Rattle.ldc.specs.Store.{Link, Card, free, live, frozen, is_free, is_frozen, slice, within}
use Rattle.ldc.specs.Rules.{link_good}
use Rattle.ldc.proofs.Basics.ListLaws.{below_at}
use Rattle.ldc.proofs.Entries.Few.{count-within}
use Rattle.ldc.specs.Layout.{card_of}
use Rattle.book.specs.Rows.{Sized, shown_by}
use Rattle.check_walk.proofs.ShownLaws.{card-shown, card-beyond, table-shown}
use Rattle.check_places.specs.Links.{place_tabled, walk_c}

frozen-not-free : (c : Card) → is_frozen c ≡ true → is_free c ≡ false
frozen-not-free free h = absurd (true≢false (sym h))
frozen-not-free (live ls) h = absurd (true≢false (sym h))
frozen-not-free frozen h = refl

-- A number that is right and not zero is that of some entries.
some-counted : (n : ℕ) (es : List Entry) → not (is_empty es) && eqb n (length es) ≡ not (eqb n 0) && eqb n (length es)
some-counted n [] = cases (eqb n 0) (λ q. rw q) (λ q. rw q)
some-counted n (e ∷ es) =
    cases (eqb n 0)
    (λ q. let z : n ≡ 0 = eqb-true n 0 q in rw (q, z, eqb-zero-suc (length es)))
    (λ q. rw q)

module _ (area : List ℕ) (cards : List (List ℕ)) where
  -- Where rule C is kept, a frozen place holds a table.
  pub frozen-table : walk_c area cards ≡ true → (p : ℕ) → p < length cards → is_frozen (card_of (get_or cards p [])) ≡ true
      → is_table (place_of area p) ≡ true
  unfolding walk_c place_tabled
  frozen-table k p h f =
      let g : (is_free (card_of (get_or cards p [])) || is_table (place_of area p)) ≡ true =
      (and_parts (is_free (card_of (get_or cards p [])) || is_table (place_of area p)) _
      (below_at (length cards) (place_tabled area cards) k p h)).0 in
      rw (frozen-not-free _ f) at g

  module _ (l : Link) where
    pub crossed : l.high < l.low → link_good (shown_by area cards) l ≡ false
    unfolding link_good
    crossed h = rw (lt-leb l.low l.high h)

    pub thawed : is_frozen (card_of (get_or cards l.place [])) ≡ false → link_good (shown_by area cards) l ≡ false
    unfolding link_good
    thawed h = rw (card-shown area cards l.place, h) (and-false (leb l.low l.high))

    pub nowhere : length cards ≤ l.place → link_good (shown_by area cards) l ≡ false
    nowhere h = thawed (rw (card-beyond area cards l.place h))

    pub sliced : Sized area cards → l.low ≤ l.high → l.place < length cards → is_frozen (card_of (get_or cards l.place [])) ≡ true
        → link_good (shown_by area cards) l
        ≡ not (eqb l.number 0) && eqb l.number (count_within l.low l.high (entries (place_of area l.place)))
    unfolding link_good slice
    sliced z o h f =
        rw (le-leb l.low l.high o, card-shown area cards l.place, f, table-shown area cards z l.place h, count-within)
        (some-counted l.number (within l.low l.high (entries (place_of area l.place))))
