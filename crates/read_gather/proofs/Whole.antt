-- All that is read, level by level, and the memory table, which stands behind the area.
use Prim.Native.Nat.{ℕ, suc, ◌-◌, ◌≤◌, ◌<◌, ◌%◌}
use mathlib.Core.Path.{◌≡◌, refl, sym, ◌∙◌, ap}
use mathlib.Core.List.{List, [], ◌∷◌, ◌++◌, map, reverse, append_assoc, append-nil, map-append}
use native.Mathlib.Omega.{arith}
use lib.ListN.{length, take, length-append}
use lib.Seq.{drop-append_seam, take_all}
use Rattle.coding.specs.Number.{Bytes}
use Rattle.table.specs.Limits.{place_size}
use Rattle.table.specs.Entry.{Entry}
use Rattle.table.specs.Table.{entries, place_at, place_of}
use Rattle.ldc.specs.Store.{within}
use Rattle.ldc.specs.Lent.{Lent, store_of}
use Rattle.ldc.specs.Read.{read_order}
use Rattle.ldc.specs.Layout.{level_count, items_in}
use Rattle.book.specs.Rows.{shown_by}
use Rattle.read.specs.Shown.{Kept}
use Rattle.read.proofs.Levels.{order-sources}
use Rattle.read_gather.specs.Gathered.{TakenIn}
use Rattle.read_gather.specs.Sources.{ranges, TakenAll}
use Rattle.read_gather.specs.Order.{sources_of, levels_from}
use Rattle.read_gather.proofs.Steps.{place-before}

-- ---- behind the area

pub longer : (area more : List ℕ) (sources : List (List Entry)) (keys spots : List ℕ) (n : ℕ) (keys' spots' : List ℕ) (r : ℕ)
    → TakenAll area sources keys spots n keys' spots' r → TakenAll (area ++ more) sources keys spots n keys' spots' r
longer area more sources keys spots n keys' spots' r t = record {
  inside = t.inside;
  rises = t.rises;
  gathers = λ behind es g. let a = append_assoc area more behind in rw a (t.gathers (more ++ behind) es (rw a at g));
}

pub place-behind : (area memory : List ℕ) → length memory ≡ place_size → memory ≡ place_at (length area) (area ++ memory)
place-behind area memory h = sym (ap (take place_size) (drop-append_seam area memory) ∙ take_all place_size memory (omega arith))

pub memory-taken : (area memory : List ℕ) (low high : ℕ) (keys spots : List ℕ) (n : ℕ) (keys' spots' : List ℕ) (r : ℕ)
    → length memory ≡ place_size → length area % place_size ≡ 0 → TakenIn memory (length area) low high keys spots n keys' spots' r
    → TakenAll (area ++ memory) (ranges low high (entries memory ∷ [])) keys spots n keys' spots' r
memory-taken area memory low high keys spots n keys' spots' r h z t = record {
  inside = t.inside;
  rises = t.rises;
  gathers = λ behind es g. t.gathers ((area ++ memory) ++ behind) es
      (place-behind area memory h ∙ place-before (area ++ memory) behind (length area) (omega (arith, length-append area memory)), z) g;
}

-- ---- level by level

module _ (area : List ℕ) (cards : List (List ℕ)) (lists head : List ℕ) (low high : ℕ) where
  abbrev pub lower : (k : ℕ) → List (List Entry)
  lower k = ranges low high (levels_from area cards lists head (level_count - k) k)

  pub lower-none : lower level_count ≡ []
  unfolding levels_from
  lower-none = refl

  pub lower-one : (k : ℕ) → 0 < k → k ≤ level_count
      → lower (k - 1) ≡ ranges low high (sources_of (shown_by area cards) (items_in (length cards) lists head (k - 1))) ++ lower k
  unfolding levels_from
  lower-one k some most =
      let c : level_count - (k - 1) ≡ suc (level_count - k) = omega arith in
      let e : suc (k - 1) ≡ k = omega arith in
      rw (c, e)
      (map-append (within low high) (sources_of (shown_by area cards) (items_in (length cards) lists head (k - 1)))
      (levels_from area cards lists head (level_count - k) k))

-- The memory table, level 0 and the levels below are the read order.
pub order-ranges : (m : Lent) (k : Kept m) → length m.memory ≡ place_size → Bytes m.memory → Bytes m.area → (low high : ℕ)
    → ranges low high (entries m.memory ∷ [])
    ++ (ranges low high (map (λ p. entries (place_of m.area p)) (reverse (items_in (length m.cards) m.lists m.head 0)))
    ++ ranges low high (levels_from m.area m.cards m.lists m.head 3 1))
    ≡ ranges low high (read_order (store_of m))
unfolding levels_from
order-ranges m k long held bytes low high =
    let items : ℕ → List ℕ = items_in (length m.cards) m.lists m.head in
    let s = shown_by m.area m.cards in
    let z : List (List Entry) = map (λ p. entries (place_of m.area p)) (reverse (items 0)) in
    let b : List (List Entry) = sources_of s (items 1) ++ (sources_of s (items 2) ++ sources_of s (items 3)) in
    let all : levels_from m.area m.cards m.lists m.head 3 1 ≡ b = rw (append-nil (sources_of s (items 3))) in
    sym (ap (ranges low high) (order-sources m k long held bytes)
    ∙ ap (λ (xss : List (List Entry)). within low high (entries m.memory) ∷ xss) (map-append (within low high) z b)
    ∙ ap (λ (xss : List (List Entry)). within low high (entries m.memory) ∷ (ranges low high z ++ ranges low high xss)) (sym all))
