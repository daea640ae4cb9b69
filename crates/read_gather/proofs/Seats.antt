-- An entry of a place, seen in the bytes that the place is a part of.
use Prim.Native.Nat.{ℕ, zero, suc, ◌+◌, ◌-◌, ◌≤◌, ◌%◌}
use mathlib.Core.Path.{◌≡◌, sym, ◌∙◌, ap}
use mathlib.Core.List.{List, [], ◌∷◌}
use native.Mathlib.Omega.{arith}
use lib.ListN.{length, take, drop, get_or, length-take, length-drop}
use lib.Seq.{get_or-take, get_or-drop, take-take, drop-drop, take-nil}
use Rattle.coding.specs.Number.{number_at}
use Rattle.coding.proofs.NumberLaws.{number_at-cong}
use Rattle.table.specs.Limits.{place_size, entry_head}
use Rattle.table.specs.Entry.{length_at, kind_at, key_at, entry_at}
use Rattle.table.specs.Table.{place_at}
use Rattle.table.proofs.Position.{Stands}
use Rattle.read_gather.specs.Gathered.{SeatedIn}

drop-take : (a n : ℕ) (l : List ℕ) → drop a (take n l) ≡ take (n - a) (drop a l)
drop-take zero n l = ap (λ m. take m l) (sym (native.Mathlib.Nat.sub-zero n))
drop-take (suc a) zero l = let e : zero - suc a ≡ 0 = omega arith in sym (ap (λ m. take m (drop (suc a) l)) e)
drop-take (suc a) (suc n) [] = sym (take-nil (suc n - suc a))
drop-take (suc a) (suc n) (x ∷ l) = drop-take a n l ∙ ap (λ m. take m (drop a l)) (let e : n - a ≡ suc n - suc a = omega arith in e)

module _ (bytes : List ℕ) (size base : ℕ) where
  number-part : (w at : ℕ) → at + w ≤ size → number_at w (take size (drop base bytes)) at ≡ number_at w bytes (base + at)
  number-part w at h =
      number_at-cong w (take size (drop base bytes)) bytes at (base + at)
      (λ i l. get_or-take size (drop base bytes) (at + i) 0 (omega arith) ∙ get_or-drop base bytes (at + i) 0
      ∙ ap (λ k. get_or bytes k 0) (let e : base + (at + i) ≡ base + at + i = omega arith in e))

  number-within : (w at d : ℕ) → at + d + w ≤ size → number_at w (take size (drop base bytes)) (at + d) ≡ number_at w bytes (base + at + d)
  number-within w at d h =
      number-part w (at + d) h ∙ ap (number_at w bytes) (let e : base + (at + d) ≡ base + at + d = omega arith in e)

  part-part : (a m : ℕ) → a + m ≤ size → take m (drop a (take size (drop base bytes))) ≡ take m (drop (base + a) bytes)
  part-part a m h =
      ap (take m) (drop-take a size (drop base bytes))
      ∙ take-take m (size - a) (drop a (drop base bytes)) (omega arith)
      ∙ ap (take m) (drop-drop a base bytes)

module _ (bytes s : List ℕ) (base at : ℕ) (p : s ≡ place_at base bytes) (h : at + entry_head ≤ place_size) where
  pub seat-length : length_at bytes (base + at) ≡ length_at s at
  seat-length = sym (ap (λ t. length_at t at) p ∙ number-part bytes place_size base 2 at (omega arith))

  pub seat-kind : kind_at bytes (base + at) ≡ kind_at s at
  seat-kind = sym (ap (λ t. kind_at t at) p ∙ number-within bytes place_size base 2 at 2 (omega arith))

  seat-key : key_at bytes (base + at) ≡ key_at s at
  seat-key = sym (ap (λ t. key_at t at) p ∙ number-within bytes place_size base 8 at 4 (omega arith))

  pub seat-shown : at + length_at s at ≤ place_size → entry_at bytes (base + at) ≡ entry_at s at
  unfolding entry_at
  seat-shown room =
      let m : ℕ = length_at s at - entry_head in
      let v : take m (drop (base + at + entry_head) bytes) ≡ take m (drop (at + entry_head) s) =
      sym (ap (λ t. take m (drop (at + entry_head) t)) p ∙ part-part bytes place_size base (at + entry_head) m (omega arith)
      ∙ ap (λ k. take m (drop k bytes)) (let e : base + (at + entry_head) ≡ base + at + entry_head = omega arith in e)) in
      rw (seat-kind, seat-key, seat-length, v)

  pub seat : Stands s at → length s ≡ place_size → base % place_size ≡ 0 → SeatedIn bytes (base + at)
  seat st l z =
      let whole : base + place_size ≤ length bytes = omega (arith, simp (length-take, length-drop) at (ap length p)) in
      record {
        form = rw (seat-kind, seat-length) st.form;
        low = rw seat-length st.low;
        high = rw seat-length st.high;
        room = rw seat-length (omega (arith, st.room));
        placed = rw seat-length (omega (arith, st.room));
      }
