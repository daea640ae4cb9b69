-- Words of lent memory below 2^64, as their type has them, show a store that fits a saved book: keys of marks and links are such words.
-- By what the head and the rows are read as, link after link.
use Prim.Native.Nat.{ℕ, suc, ◌+◌, ◌≤◌, ◌<◌, ◌^◌, min}
use mathlib.Core.Path.{◌≡◌, ap}
use mathlib.Core.Bool.{true≢false}
use mathlib.Core.List.{List, [], ◌∷◌, Memᴰ}
use mathlib.Core.Option
use mathlib.Core.Option.{Option, some}
use native.Mathlib.Omega.{arith}
use borrow.Author.Tests.{ltb-true, ltb-false}
use lib.Dec.{ltb, eqb}
use lib.ListN.{length, get_or, length-map}
use Rattle.table.proofs.Tests.{cases}
use Rattle.ldc.specs.Lists.{is_some}
use Rattle.ldc.specs.Store.{Link, free, size, card, links, links_of}
use Rattle.ldc.specs.Layout.{link_size, row_head, link_limit, state_of, link_count, links_at, card_of, mark_of}
use Rattle.ldc.specs.Lent.{Lent, store_of}
use Rattle.ldc.proofs.Basics.ListLaws.{get_d_map}
use Rattle.ldc.proofs.Stores.Fits.{Fits}
use Rattle.ldc.proofs.Stores.SoundRules.{beyond}

-- ---- marks

mark-key : (flag key k : ℕ) → some k ≡ mark_of flag key → k ≡ key
unfolding mark_of
mark-key flag key k e =
    cases (eqb flag 0)
    (λ q. absurd (true≢false (ap is_some (rw q at e))))
    (λ q. ap (λ (o : Option ℕ). Option.get_or o 0) (rw q at e))

-- ---- links

none_in : (l : Link) (ls : List Link) → ls ≡ [] → Memᴰ l ls → ⊥
none_in l [] e m = elim m [ ]
none_in l (k ∷ ls) e m = let z : suc (length ls) ≡ 0 = ap length e in omega arith

module _ (row : List ℕ) (words : (i : ℕ) → get_or row i 0 < 2 ^ 64) where
  links-high : (n at : ℕ) (l : Link) → Memᴰ l (links_at n row at) → l.high < 2 ^ 64
  links-high Prim.Native.Nat.zero at l x' = elim x' [ ]
  links-high (suc n) at l (Memᴰ.head e) = rw e (words (at + 2))
  links-high (suc n) at l (Memᴰ.tail m) = links-high n (at + link_size) l m

  card-high : (l : Link) → Memᴰ l (links_of (card_of row)) → l.high < 2 ^ 64
  unfolding card_of
  card-high l m =
      cases (eqb (state_of row) 1)
      (λ q. links-high (min (link_count row) link_limit) row_head l (rw q at m))
      (λ q. cases (eqb (state_of row) 2)
      (λ r. absurd (none_in l (links_of (card_of row)) (rw (q, r)) m))
      (λ r. absurd (none_in l (links_of (card_of row)) (rw (q, r)) m)))

-- ---- the store

module _ (m : Lent) (head : (i : ℕ) → get_or m.head i 0 < 2 ^ 64) (rows : (p i : ℕ) → get_or (get_or m.cards p []) i 0 < 2 ^ 64) where
  marks-fit : (k : ℕ) → Memᴰ (some k) (store_of m).marks → k < 2 ^ 64
  unfolding store_of
  marks-fit k (Memᴰ.head e) = rw (mark-key _ _ k e) (head 3)
  marks-fit k (mathlib.Core.List.Memᴰ.tail (mathlib.Core.List.Memᴰ.tail x8)) = elim x8 [ ]
  marks-fit k (Memᴰ.tail (Memᴰ.head e)) = rw (mark-key _ _ k e) (head 5)

  links-fit : (p : ℕ) (l : Link) → Memᴰ l (links (store_of m) p) → l.high < 2 ^ 64
  unfolding links card store_of size
  links-fit p l q =
      cases (ltb p (length m.cards))
      (λ near. card-high (get_or m.cards p []) (rows p) l (rw (get_d_map card_of m.cards p [] free (ltb-true _ _ near)) at q))
      (λ far. let over : size (store_of m) ≤ p = omega (arith, ltb-false p (length m.cards) far, length-map m.cards card_of) in
      let none : links (store_of m) p ≡ [] = rw (beyond (store_of m) p over) in
      absurd (none_in l (links (store_of m) p) none q))

  pub words-fit : Fits (store_of m)
  words-fit = record { marks = marks-fit; links = links-fit }
