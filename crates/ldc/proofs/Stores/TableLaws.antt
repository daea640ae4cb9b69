-- The laws of `table`, in the words of the theory: valid entries make a table's place, and a table's place shows valid entries.
use Prim.Native.Nat.{ℕ, ◌≤◌}
use mathlib.Core.Path.{◌≡◌}
use mathlib.Core.List.{List}
use native.Mathlib.Omega.{arith}
use lib.ListN.{length}
use Rattle.table.specs.Entry.{Entry}
use Rattle.table.specs.Limits.{place_size}
use Rattle.table.specs.Table.{table_bytes, entries, is_table}
use Rattle.table.specs.Valid.{Valid}
use Rattle.table.proofs.Decode.{decode, decode-table, valid-size, bytes-table}
use Rattle.table.proofs.Encode.{shows-valid}
use Rattle.table.proofs.Entries.{length-entries}
use Rattle.table.proofs.Position.{table-good}
use Rattle.ldc.proofs.Stores.Sound.{TablePlace}

pub entries-table_bytes : (es : List Entry) → Valid es → entries (table_bytes es) ≡ es
entries-table_bytes es v = decode es v

pub table_bytes-long : (es : List Entry) → Valid es → length (table_bytes es) ≡ place_size
table_bytes-long es v = valid-size es v

pub table_bytes-place : (es : List Entry) → Valid es → 1 ≤ length es → TablePlace (table_bytes es)
table_bytes-place es v h = record { long = valid-size es v; bytes = bytes-table es v.values; good = decode-table es v h }

pub place-valid : (b : List ℕ) → TablePlace b → Valid (entries b)
unfolding is_table
place-valid b t = shows-valid b t.bytes t.long 1 t.good

pub place-some : (b : List ℕ) → TablePlace b → 1 ≤ length (entries b)
place-some b t = omega (arith, length-entries b, (table-good b t.good).enough)
