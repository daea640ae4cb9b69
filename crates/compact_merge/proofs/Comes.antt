-- What comes out of a merge: all sources are gathered, since there is room for the entries of nine tables, and what is sifted of them is
-- what the definition keeps.
use Prim.Native.Nat.{ℕ, ◌≤◌, ◌^◌}
use mathlib.Core.Path.{◌≡◌, sym, ◌∙◌, ap}
use mathlib.Core.List.{List, [], append-nil}
use native.Mathlib.Omega.{arith}
use lib.ListN.{length, take}
use lib.Seq.{take_all}
use Rattle.coding.specs.Number.{Bytes}
use Rattle.table.specs.Entry.{Entry}
use Rattle.ldc.specs.Lists.{keep}
use Rattle.ldc.specs.Store.{sources, within}
use Rattle.ldc.specs.Read.{gather}
use Rattle.ldc.specs.Tidy.{greatest, comes_out}
use Rattle.ldc.proofs.Entries.Keys.{keys-gather}
use Rattle.ldc.proofs.Entries.Few.{gather-few, valid-keys}
use Rattle.book.specs.Rows.{shown_by}
use Rattle.read.specs.Shown.{Tabled, Legible}
use Rattle.read_gather.specs.Gathered.{AllSeated, Gathers}
use Rattle.read_gather.specs.Sources.{ranges, TakenAll}
use Rattle.read_gather.proofs.Steps.{taken-gathers}
use Rattle.read_gather.proofs.Within.{within_all}
use Rattle.compact_merge.specs.Merge.{merge_entries, store_in, merged_in}
use Rattle.compact_merge.specs.Spots.{standing, Stand, Sifted}
use Rattle.compact_merge.proofs.Sources.{sources-valid, sources-few}
use Rattle.compact_merge.proofs.Merged.{merged_by, merged-rising, merged-values}

module _ (area : List ℕ) (cards : List (List ℕ)) (g : Legible area cards) (b : Bytes area) (p : ℕ) (t : Tabled area p) where
  abbrev all : List (List Entry)
  all = sources (shown_by area cards) p

  module _ (keys spots keys' spots' : List ℕ) (used : ℕ) (long : length keys ≡ merge_entries)
      (h : TakenAll area (ranges 0 greatest all) keys spots 0 keys' spots' used) where
    gathers : Gathers area keys' spots' used (gather all)
    gathers =
        let v = sources-valid area cards g b p t in
        let some = taken-gathers area [] all 0 greatest 0 (2 ^ 64) keys spots keys' spots' used (valid-keys all v) h in
        let every : take (length keys) (within 0 greatest (gather all)) ≡ gather all =
        ap (take (length keys)) (within_all 0 0 greatest (gather all) (keys-gather 0 (2 ^ 64) all (valid-keys all v)) (omega arith))
        ∙ take_all (length keys) (gather all) (omega (arith, gather-few all v, sources-few area cards g b p t)) in
        rw (append-nil area, every) at some

    pub gathered-seated : AllSeated area (take used spots')
    gathered-seated = gathers.seated

    -- What is then sifted is what comes out.
    module _ (lists head : List ℕ) (n : ℕ) (spots'' : List ℕ) (left : ℕ)
        (f : Sifted (comes_out (store_in area cards lists head) n) area spots' used spots'' left) where
      pub comes-out : standing area spots'' left ≡ merged_in area cards lists head n p
      comes-out = f.kept ∙ ap (keep (comes_out (store_in area cards lists head) n)) gathers.shown ∙ sym (merged_by area cards g b lists head n p t)

      pub stand : used ≤ length spots'' → Stand area spots'' left
      stand l = record {
        inside = omega (arith, f.few);
        seated = f.seated;
        keys = rw comes-out (merged-rising area cards g b lists head n p t);
        values = rw comes-out (merged-values area cards g b lists head n p t);
      }
