-- Which entry stands at which spot. By the laws of lists, from the spots to the entries.
use Prim.Native.Nat.{ℕ, ◌+◌, ◌<◌}
use mathlib.Core.Path.{◌≡◌, sym, ◌∙◌, ap}
use mathlib.Core.List.{List, [], ◌∷◌, ◌++◌}
use native.Mathlib.Omega.{arith}
use native.Mathlib.Numerals.{add-one}
use lib.ListN.{length, take, drop, get_or, length-map, length-drop, get_or-map}
use lib.Seq.{take-suc, get_or-take, get_or-drop, length-take-le}
use Rattle.table.specs.Entry.{Entry, entry_at}
use Rattle.read_gather.specs.Gathered.{SeatedIn}
use Rattle.read_gather.proofs.Means.{seated-get}
use Rattle.compact_merge.specs.Spots.{standing, Stand}

module _ (bytes spots : List ℕ) (n : ℕ) (s : Stand bytes spots n) where
  pub standing-long : length (standing bytes spots n) ≡ n
  standing-long = length-map (take n spots) (entry_at bytes) ∙ length-take-le n spots s.inside

  pub spot-seated : (i : ℕ) → i < n → SeatedIn bytes (get_or spots i 0)
  spot-seated i h =
      rw (sym (get_or-take n spots i 0 h)) (seated-get bytes (take n spots) i s.seated (omega (arith, length-take-le n spots s.inside)))

  -- One more of the entries from one on.
  pub spot-more : (from i : ℕ) → from + i < n
      → take (i + 1) (drop from (standing bytes spots n)) ≡ take i (drop from (standing bytes spots n))
      ++ entry_at bytes (get_or spots (from + i) 0) ∷ []
  spot-more from i h =
      let es : List Entry = drop from (standing bytes spots n) in
      let d : Entry = entry_at bytes 0 in
      let this : get_or es i d ≡ entry_at bytes (get_or spots (from + i) 0) =
      get_or-drop from (standing bytes spots n) i d ∙ get_or-map (entry_at bytes) (take n spots) (from + i) 0
      ∙ ap (entry_at bytes) (get_or-take n spots (from + i) 0 h) in
      rw (add-one i, sym this) (take-suc es i d (omega (arith, length-drop from (standing bytes spots n), standing-long)))
