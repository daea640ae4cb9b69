-- What the types of the lent memory give; and that the memory of a sound store has it, by the lengths and the bytes of its pieces.
use Prim.Native.Nat.{ℕ, zero, suc, ◌<◌}
use mathlib.Core.List.{List, [], ◌∷◌, map}
use native.Mathlib.Omega.{arith}
use lib.ListN.{length, get_or, drop, length-map, length-append}
use Rattle.coding.specs.Number.{Bytes}
use Rattle.coding.proofs.NumberLaws.{bytes_take, bytes_drop, bytes-append}
use Rattle.table.proofs.Decode.{valid-size, bytes-table}
use Rattle.ldc.specs.Lists.{flat}
use Rattle.ldc.specs.Store.{free, Store, bytes_at}
use Rattle.ldc.specs.Lent.{lent_of}
use Rattle.ldc.proofs.Stores.Sound.{Sound}
use Rattle.ldc.proofs.Basics.ListLaws.{mem-get_or, parts}
use Rattle.ldc.proofs.Lent.Parts.{length-row_of, length-rows, get_d_rows, length-marks}
use Rattle.ldc.proofs.Lent.Round.{few-links}
use Rattle.ldc.specs.Layout.{mark_words}
use Rattle.ldc.specs.Facts.{Shape}

-- ---- bytes end to end

pub bytes-flat : (xss : List (List ℕ)) → ((p : ℕ) → Bytes (get_or xss p [])) → Bytes (flat xss)
bytes-flat [] b = λ i. omega arith
bytes-flat (xs ∷ xss) b = bytes-append xs (flat xss) (b 0) (bytes-flat xss (λ p. b (suc p)))

pub bytes-parts : (k n : ℕ) (s : List ℕ) → Bytes s → (p : ℕ) → Bytes (get_or (parts k n s) p [])
bytes-parts k zero s b p = λ i. omega arith
bytes-parts k (suc n) s b zero = bytes_take k s b
bytes-parts k (suc n) s b (suc p) = bytes-parts k n (drop k s) (bytes_drop k s b) p

-- ---- the memory of a sound store

pub shape-lent_of : (s : Store) → Sound s → ((p : ℕ) → Bytes (bytes_at s p)) → Shape (lent_of s)
unfolding lent_of bytes_at
shape-lent_of s so bytes = record {
  rows = λ i h.
      let near : i < length s.cards = omega (arith, length-rows s.cards s.places) in
      rw (get_d_rows s.cards s.places i near) (length-row_of _ _ (few-links s so _ (mem-get_or s.cards i free near)));
  head = let two = length-marks s.marks in
      let four = length-map s.levels (λ ps. length ps) in
      let all = length-append (flat (map mark_words s.marks)) (map (λ ps. length ps) s.levels) in
      omega (arith, so.two, so.four);
  memory = valid-size s.memory so.memory;
  memory-bytes = bytes-table s.memory so.memory.values;
  area-bytes = bytes-flat s.places bytes;
}
