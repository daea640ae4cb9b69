-- A run of values written one behind the other: none, and one more.
use Prim.Native.Nat.{ℕ, ◌+◌, ◌<◌}
use mathlib.Core.Path.{◌≡◌, refl, sym, ◌∙◌}
use mathlib.Core.List.{List, [], ◌∷◌, ◌++◌}
use native.Mathlib.Omega.{arith}
use native.Mathlib.Numerals.{add-one}
use lib.ListN.{length, take, get_or, length-append}
use lib.Seq.{sets, take-suc}
use Rattle.coding.proofs.Sets.{sets-append}
use Rattle.table.specs.Entry.{Entry, entry_bytes}
use Rattle.table.specs.Table.{entries_bytes}
use Rattle.table.proofs.Append.{bytes-snoc}
use Rattle.serve_read.specs.Scan.{Fills}

-- The bytes of one entry more.
bytes-more : (a : List ℕ) (start : ℕ) (es : List Entry) (e : Entry)
    → sets (sets a start (entries_bytes es)) (start + length (entries_bytes es)) (entry_bytes e) ≡ sets a start (entries_bytes (es ++ e ∷ []))
bytes-more a start es e = rw (bytes-snoc es e) (sym (sets-append a start (entries_bytes es) (entry_bytes e)))

length_more : (es : List Entry) (e : Entry) → length (entries_bytes (es ++ e ∷ [])) ≡ length (entries_bytes es) + length (entry_bytes e)
length_more es e = rw (bytes-snoc es e) (length-append (entries_bytes es) (entry_bytes e))

module _ (all : List Entry) (start : ℕ) (before : List ℕ) where
  pub fills-none : Fills (take 0 all) start before before start
  unfolding entries_bytes
  fills-none = record { written = refl; ends = omega arith }

  pub fills_one : (i : ℕ) (d : Entry) (answer next : List ℕ) (end len : ℕ) → i < length all → Fills (take i all) start before answer end
      → next ≡ sets answer end (entry_bytes (get_or all i d)) → len ≡ length (entry_bytes (get_or all i d)) → Fills (take (i + 1) all) start before next (end + len)
  fills_one i d answer next end len h f w l =
      let e : Entry = get_or all i d in
      let more : take (i + 1) all ≡ take i all ++ e ∷ [] = rw (add-one i) (take-suc all i d h) in
      rw more (record {
        written = w ∙ rw (f.written, f.ends) (bytes-more before start (take i all) e);
        ends = omega (arith, f.ends, length_more (take i all) e);
      })
