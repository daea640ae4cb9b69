-- What a run of values leaves in the answer of a scan.
use Rattle.std.specs.Prelude.{ℕ, ◌+◌, ◌≡◌, List, length}
use Rattle.std.proofs.lemmas.List.Edits.{sets}
use Rattle.table.specs.Entry.{Entry}
use Rattle.table.specs.Table.{entries_bytes}

-- Entries were written from `start` on, up to `end`.
pub record Fills (entries : List Entry) (start : ℕ) (before after : List ℕ) (end : ℕ) : Type 0 where
  pub written : after ≡ sets before start (entries_bytes entries)
  pub ends : end ≡ start + length (entries_bytes entries)
