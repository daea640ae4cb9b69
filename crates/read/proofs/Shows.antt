-- What legible area and cards show: tables are parts of the area, links are words of the rows.
use Prim.Native.Nat.{ℕ, suc, ◌+◌, ◌*◌, ◌-◌, ◌≤◌, ◌<◌, min, max}
use mathlib.Core.Path.{◌≡◌, sym, ◌∙◌, ap}
use mathlib.Core.Bool.{true}
use mathlib.Core.List.{List, [], ◌∷◌}
use native.Mathlib.Omega.{arith}
use native.Mathlib.Numerals.{add-one}
use borrow.Author.Tests.{leb-true, leb-false, le-leb, lt-leb}
use lib.Dec.{leb}
use lib.ListN.{length, get_or, take, drop}
use lib.Seq.{drop-cons}
use Rattle.coding.specs.Number.{Bytes}
use Rattle.coding.proofs.NumberLaws.{bytes_take, bytes_drop}
use Rattle.coding.proofs.Sets.{length_part}
use Rattle.table.specs.Limits.{place_size}
use Rattle.table.specs.Table.{entries, is_table, is_memory, place_of}
use Rattle.table.specs.Valid.{Valid}
use Rattle.table.proofs.Tests.{cases}
use Rattle.table.proofs.Position.{table-memory, table-good}
use Rattle.table.proofs.Encode.{shows-valid}
use Rattle.table.proofs.Entries.{length-entries}
use Rattle.ldc.specs.Store.{Link, table, links, slice, within, least_end, greatest_end}
use Rattle.ldc.specs.Lent.{places_in}
use Rattle.ldc.proofs.Stores.Spans.{Readable}
use Rattle.ldc.specs.Layout.{link_count, link_at}
use Rattle.book.proofs.Rows.{link-of, count-of}
use Rattle.book.specs.Pieces.{lent}
use Rattle.book.specs.Row.{links_in}
use Rattle.book.specs.Rows.{links_on, shown_by}
use Rattle.read.specs.Shown.{Tabled, Legible}
use Rattle.read.proofs.Pieces.{bytes-shown, links-shown}

-- ---- one place

-- The part of the area that the code takes.
pub placed : (area : List ℕ) (p : ℕ) → take (p * place_size + place_size - p * place_size) (drop (p * place_size) area) ≡ place_of area p
placed area p = let e : p * place_size + place_size - p * place_size ≡ place_size = omega arith in rw e

pub place-long : (area : List ℕ) (p : ℕ) → Tabled area p → length (place_of area p) ≡ place_size
place-long area p t = length_part area (p * place_size) place_size t.within

pub place-memory : (area : List ℕ) (p : ℕ) → Tabled area p → is_memory (place_of area p) ≡ true
place-memory area p t = table-memory (place_of area p) t.good

pub place-valid : (area : List ℕ) (p : ℕ) → Bytes area → Tabled area p → Valid (entries (place_of area p))
unfolding is_table
place-valid area p b t =
    shows-valid (place_of area p) (bytes_take place_size (drop (p * place_size) area) (bytes_drop (p * place_size) area b)) (place-long area p t) 1 t.good

pub table-some : (area : List ℕ) (p : ℕ) → Tabled area p → 1 ≤ length (entries (place_of area p))
table-some area p t = omega (arith, length-entries (place_of area p), (table-good (place_of area p) t.good).enough)

-- ---- in a store that is shown

module _ (area : List ℕ) (cards : List (List ℕ)) (g : Legible area cards) where
  whole : length area ≡ places_in area * place_size
  unfolding places_in
  whole = omega (arith, g.sized)

  pub table-shown : (p : ℕ) → table (shown_by area cards) p ≡ entries (place_of area p)
  unfolding table
  table-shown p = ap entries (bytes-shown (lent area cards [] [] []) whole p)

  pub slice-shown : (l : Link) → slice (shown_by area cards) l ≡ within l.low l.high (entries (place_of area l.place))
  unfolding slice
  slice-shown l = rw (table-shown l.place)

  -- A place that holds a table has a card.
  pub carded : (p : ℕ) → Tabled area p → p < length cards
  carded p t = omega (arith, g.sized, t.within)

  pub readable : (p : ℕ) → Bytes area → Tabled area p → Readable (shown_by area cards) p
  readable p b t =
      record {
        keys = rw (table-shown p) (place-valid area p b t).keys;
        some = rw (table-shown p) (table-some area p t);
      }

  module _ (p : ℕ) (h : p < length cards) where
    pub links-counted : length (links_on cards p) ≡ link_count (get_or cards p [])
    unfolding links_on links_in
    links-counted = count-of (get_or cards p []) (g.rowed p h) (g.counted p h)

    pub links-long : length (links (shown_by area cards) p) ≡ link_count (get_or cards p [])
    links-long = ap length (links-shown (lent area cards [] [] []) p) ∙ count-of (get_or cards p []) (g.rowed p h) (g.counted p h)

    pub link-shown : (i : ℕ) (d : Link) → i < link_count (get_or cards p []) → get_or (links (shown_by area cards) p) i d ≡ link_at (get_or cards p []) i
    link-shown i d hi =
        rw (links-shown (lent area cards [] [] []) p)
        (link-of (get_or cards p []) i d (omega (arith, count-of (get_or cards p []) (g.rowed p h) (g.counted p h))))

-- ---- the ends of a span

-- One turn: the greatest of this link's ends and those so far.
ends-max : (a b : ℕ) (ls : List Link) → greatest_end (max a b) ls ≡ max b (greatest_end a ls)
ends-max a b [] = omega arith
ends-max a b (l ∷ ls) = let r = ends-max a b ls in omega arith

pub end-turn : (e : ℕ) (ls : List Link) (i : ℕ) (d : Link) → i < length ls
    → greatest_end e (drop i ls) ≡ greatest_end (max e (max (get_or ls i d).low (get_or ls i d).high)) (drop (i + 1) ls)
end-turn e ls i d h =
    rw (add-one i, drop-cons ls i d h) (sym (ends-max e (max (get_or ls i d).low (get_or ls i d).high) (drop (suc i) ls)))

-- A link that ends below a key does not decide whether the span reaches it; one that does not, does.
module _ (k e : ℕ) (ls : List Link) (i : ℕ) (d : Link) (h : i < length ls) where
  pub reach-turn : max (get_or ls i d).low (get_or ls i d).high < k → leb k (greatest_end e (drop i ls)) ≡ leb k (greatest_end e (drop (i + 1) ls))
  reach-turn b =
      let rest : ℕ = greatest_end e (drop (suc i) ls) in
      let here : ℕ = max (get_or ls i d).low (get_or ls i d).high in
      rw (add-one i, drop-cons ls i d h)
      (cases (leb k rest)
      (λ q. rw q (le-leb k (max here rest) (omega (arith, leb-true k rest q))))
      (λ q. rw q (lt-leb k (max here rest) (omega (arith, leb-false k rest q)))))

  pub reach_here : k ≤ max (get_or ls i d).low (get_or ls i d).high → leb k (greatest_end e (drop i ls)) ≡ true
  reach_here b = rw (drop-cons ls i d h) (le-leb k _ (omega arith))

  -- The same of where it starts.
  pub start-turn : k < min (get_or ls i d).low (get_or ls i d).high → leb (least_end e (drop i ls)) k ≡ leb (least_end e (drop (i + 1) ls)) k
  start-turn b =
      let rest : ℕ = least_end e (drop (suc i) ls) in
      let here : ℕ = min (get_or ls i d).low (get_or ls i d).high in
      rw (add-one i, drop-cons ls i d h)
      (cases (leb rest k)
      (λ q. rw q (le-leb (min here rest) k (omega (arith, leb-true rest k q))))
      (λ q. rw q (lt-leb (min here rest) k (omega (arith, leb-false rest k q)))))

  pub start-here : min (get_or ls i d).low (get_or ls i d).high ≤ k → leb (least_end e (drop i ls)) k ≡ true
  start-here b = rw (drop-cons ls i d h) (le-leb _ k (omega arith))
