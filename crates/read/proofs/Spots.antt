-- Where the answer of a look-up stands.
use Prim.Native.Nat.{ℕ}
use mathlib.Core.Path.{◌≡◌, sym, ◌∙◌, ap}
use mathlib.Core.Bool.{true}
use mathlib.Core.List.{List, ◌++◌}
use mathlib.Core.Option.{some, none}
use Rattle.table.specs.Entry.{Entry, entry_at}
use Rattle.table.specs.Table.{entries, is_memory}
use Rattle.table.specs.Search.{find, find_in, shown}
use Rattle.std.specs.Prelude as code
use Rattle.table.proofs.Found.{shown-find, find-stands}
use Rattle.table.proofs.Taken.{seated-of}
use Rattle.ldc.proofs.Entries.Finds.{find-append}
use Rattle.read.specs.Found.{Hits}
use Rattle.read.specs.Found.{Spots}
use Rattle.read.specs.declared.found.Spot.TheVariants.{Memory, Place}

-- ---- memory, then tables

module _ (area memory : List ℕ) (k : ℕ) (tables : List Entry) where
  pub spot-memory : (at : ℕ) → is_memory memory ≡ true → find_in memory k ≡ code.Some at → Spots area memory (find k (entries memory ++ tables)) (code.Some (Memory at))
  unfolding shown
  spot-memory at good h =
      let there : find k (entries memory) ≡ some (entry_at memory at) = sym (shown-find memory k) ∙ ap (shown memory) h in
      record {
        shown = sym (find-append k (entries memory) tables ∙ rw there);
        seated = seated-of memory at (find-stands memory good k at h).0;
      }

  none-held : find_in memory k ≡ code.None → find k (entries memory ++ tables) ≡ find k tables
  unfolding shown
  none-held h =
      let none : find k (entries memory) ≡ none = sym (shown-find memory k) ∙ ap (shown memory) h in
      find-append k (entries memory) tables ∙ rw none

  pub spot-place : (p at : ℕ) → find_in memory k ≡ code.None → Hits area (find k tables) (some (record { place = p; at = at })) → Spots area memory (find k (entries memory ++ tables)) (code.Some (Place p at))
  spot-place p at h t = record { shown = t.shown ∙ sym (none-held h); seated = t.seated }

  pub spot-none : find_in memory k ≡ code.None → Hits area (find k tables) none → Spots area memory (find k (entries memory ++ tables)) code.None
  spot-none h t = record { shown = t.shown ∙ sym (none-held h); seated = tt }
