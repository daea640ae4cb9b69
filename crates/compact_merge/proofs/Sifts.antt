-- Spots of entries that pass a test, moved to the front one by one: what passed of the first i, and what will of the others, is all that
-- passes.
use Prim.Native.Nat.{ℕ, suc, ◌+◌, ◌≤◌, ◌<◌}
use mathlib.Core.Path.{◌≡◌, sym, ◌∙◌, ap}
use mathlib.Core.Bool.{Bool, true, false}
use mathlib.Core.List.{List, [], ◌∷◌, ◌++◌, map, append_assoc, map-append}
use native.Mathlib.Omega.{arith}
use native.Mathlib.Numerals.{add-one}
use lib.ListN.{length, take, drop, get_or, set, length-set, length-map, get_or-map}
use lib.Seq.{drop-cons, drop-drop, get_or-take, length-take-le, take-suc-set}
use Rattle.table.specs.Entry.{Entry, entry_at}
use Rattle.ldc.specs.Lists.{keep}
use Rattle.read_gather.specs.Gathered.{SeatedIn, AllSeated}
use Rattle.read_gather.proofs.Means.{seated-get, seated-more, same_at, same-behind}
use Rattle.compact_merge.specs.Spots.{standing}

-- The first `kept` of the spots are what passed of the first i.
pub record Sifting (test : Entry → Bool) (bytes spots₀ : List ℕ) (n : ℕ) (spots : List ℕ) (kept i : ℕ) : Type 0 where
  pub low : kept ≤ i
  pub high : i ≤ n
  pub long : length spots ≡ length spots₀
  pub same : drop i spots ≡ drop i spots₀
  pub whole : keep test (standing bytes spots₀ n) ≡ standing bytes spots kept ++ keep test (drop i (standing bytes spots₀ n))
  pub seated : AllSeated bytes (take kept spots)

module _
    (test : Entry → Bool) (bytes spots₀ : List ℕ) (n : ℕ) (inside : n ≤ length spots₀) (all : AllSeated bytes (take n spots₀))
    (spots : List ℕ) (kept i : ℕ) (s : Sifting test bytes spots₀ n spots kept i) (h : i < n) where
  old : get_or spots i 0 ≡ get_or spots₀ i 0
  old = same_at i spots spots₀ s.same

  pub sift-seated : SeatedIn bytes (get_or spots i 0)
  sift-seated = rw (old, sym (get_or-take n spots₀ i 0 h)) (seated-get bytes (take n spots₀) i all (omega (arith, length-take-le n spots₀ inside)))

  -- The entry at the spot, and those behind it.
  next : drop i (standing bytes spots₀ n) ≡ entry_at bytes (get_or spots i 0) ∷ drop (i + 1) (standing bytes spots₀ n)
  next =
      let f : ℕ → Entry = entry_at bytes in
      let size : length (standing bytes spots₀ n) ≡ n = length-map (take n spots₀) f ∙ length-take-le n spots₀ inside in
      drop-cons (standing bytes spots₀ n) i (f 0) (omega (arith, size))
      ∙ rw (get_or-map f (take n spots₀) i 0, get_or-take n spots₀ i 0 h, sym (add-one i), old)

  -- It passes, and is moved to the front.
  pub sift_in : test (entry_at bytes (get_or spots i 0)) ≡ true → Sifting test bytes spots₀ n (set spots kept (get_or spots i 0)) (kept + 1) (i + 1)
  sift_in q =
      let f : ℕ → Entry = entry_at bytes in
      let w : ℕ = get_or spots i 0 in
      let rest : List Entry = drop (i + 1) (standing bytes spots₀ n) in
      let taken : take (suc kept) (set spots kept w) ≡ take kept spots ++ (w ∷ []) = take-suc-set spots kept w (omega (arith, s.low, s.long)) in
      let front : standing bytes (set spots kept w) (suc kept) ≡ standing bytes spots kept ++ (f w ∷ []) =
      ap (map f) taken ∙ map-append f (take kept spots) (w ∷ []) in
      let keeps : keep test (drop i (standing bytes spots₀ n)) ≡ f w ∷ keep test rest = ap (keep test) next ∙ rw q in
      rw (add-one kept) (record {
        low = omega (arith, s.low);
        high = omega arith;
        long = length-set spots kept w ∙ s.long;
        same = same-behind i kept w spots spots₀ s.low s.same;
        whole = s.whole ∙ ap (λ (xs : List Entry). standing bytes spots kept ++ xs) keeps
            ∙ sym (append_assoc (standing bytes spots kept) (f w ∷ []) (keep test rest))
            ∙ ap (λ (xs : List Entry). xs ++ keep test rest) (sym front);
        seated = rw taken (seated-more bytes (take kept spots) w s.seated sift-seated);
      })

  -- It does not.
  pub sift_out : test (entry_at bytes (get_or spots i 0)) ≡ false → Sifting test bytes spots₀ n spots kept (i + 1)
  sift_out q =
      let keeps : keep test (drop i (standing bytes spots₀ n)) ≡ keep test (drop (i + 1) (standing bytes spots₀ n)) = ap (keep test) next ∙ rw q in
      record {
        low = omega (arith, s.low);
        high = omega arith;
        long = s.long;
        same = sym (drop-drop 1 i spots) ∙ ap (drop 1) s.same ∙ drop-drop 1 i spots₀;
        whole = s.whole ∙ ap (λ (xs : List Entry). standing bytes spots kept ++ xs) keeps;
        seated = s.seated;
      }
