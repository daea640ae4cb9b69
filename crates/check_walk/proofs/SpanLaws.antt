-- Spans: the least and the greatest end, one link after the other; and spans that rise, one table after the other.
use Prim.Native.Nat.{ℕ, ◌+◌, ◌<◌, min, max}
use mathlib.Core.Path.{◌≡◌, refl, sym, ◌∙◌, ap}
use mathlib.Core.Bool.{Bool, true, false, ◌&&◌}
use mathlib.Core.List.{List, [], ◌∷◌}
use native.Mathlib.Omega.{arith}
use native.Mathlib.Numerals.{add-one}
use lib.Dec.{ltb}
use lib.ListN.{length, get_or, drop}
use lib.Seq.{drop-cons}
use Rattle.ldc.specs.Store.{Link, Store, least_end, greatest_end, span_start, span_end}
use Rattle.ldc.specs.Rules.{spans_rise}
use Rattle.check_walk.specs.Spans.{rises_from}
use Rattle.book.specs.Row.{links_in}
use Rattle.ldc.specs.Layout.{link_at}
use Rattle.book.proofs.Rows.{links-cons}

least_first : (k x : ℕ) (ls : List Link) → min x (least_end k ls) ≡ least_end (min k x) ls
least_first k x [] = omega arith
least_first k x (l ∷ ls) = omega (arith, least_first k x ls)

greatest-first : (k x : ℕ) (ls : List Link) → max x (greatest_end k ls) ≡ greatest_end (max k x) ls
greatest-first k x [] = omega arith
greatest-first k x (l ∷ ls) = omega (arith, greatest-first k x ls)

module _ (k : ℕ) (row : List ℕ) (j : ℕ) (h : j < length (links_in row)) where
  pub least-turn : least_end k (drop j (links_in row))
      ≡ least_end (min k (min (link_at row j).low (link_at row j).high)) (drop (j + 1) (links_in row))
  least-turn = rw (links-cons row j h) (least_first k (min (link_at row j).low (link_at row j).high) (drop (j + 1) (links_in row)))

  pub greatest-turn : greatest_end k (drop j (links_in row))
      ≡ greatest_end (max k (max (link_at row j).low (link_at row j).high)) (drop (j + 1) (links_in row))
  greatest-turn = rw (links-cons row j h) (greatest-first k (max (link_at row j).low (link_at row j).high) (drop (j + 1) (links_in row)))

-- ---- spans that rise

pub rise-from : (s : Store) (p : ℕ) (ps : List ℕ) → spans_rise s (p ∷ ps) ≡ rises_from s (span_end s p) ps
rise-from s p [] = refl
rise-from s p (q ∷ ps) = rw (rise-from s q ps)

module _ (s : Store) (items : List ℕ) where
  pub rise-first : 0 < length items → spans_rise s items ≡ rises_from s (span_end s (get_or items 0 0)) (drop 1 items)
  rise-first h = ap (spans_rise s) (drop-cons items 0 0 h) ∙ rise-from s (get_or items 0 0) (drop 1 items)

  rise-turn : (i end : ℕ) → i < length items
      → rises_from s end (drop i items)
      ≡ (ltb end (span_start s (get_or items i 0)) && rises_from s (span_end s (get_or items i 0)) (drop (i + 1) items))
  rise-turn i end h = rw (add-one i, drop-cons items i 0 h)

  pub rise-fails : {whole : Bool} (i end : ℕ) → i < length items → whole ≡ rises_from s end (drop i items)
      → ltb end (span_start s (get_or items i 0)) ≡ false → false ≡ whole
  rise-fails i end h inv f = sym (inv ∙ rise-turn i end h ∙ rw f)

  pub rise-passes : {whole : Bool} (i end : ℕ) → i < length items → whole ≡ rises_from s end (drop i items)
      → ltb end (span_start s (get_or items i 0)) ≡ true → whole ≡ rises_from s (span_end s (get_or items i 0)) (drop (i + 1) items)
  rise-passes i end h inv t = inv ∙ rise-turn i end h ∙ rw t
