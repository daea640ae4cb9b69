-- The examples are valid entries, so the calls that build them may be made, and give their bytes.
use Prim.Native.Nat.{ℕ, zero, suc, ◌+◌, ◌≤◌}
use mathlib.Core.Path.{◌≡◌, refl, sym, ◌∙◌}
use mathlib.Core.Bool.{true}
use mathlib.Core.List.{List, [], ◌∷◌}
use lib.Dec.{lit<, lit≤}
use lib.ListN.{length}
use lib.Seq.{sets}
use Rattle.coding.specs.Number.{bytes_of, Bytes}
use Rattle.coding.proofs.Sets.{sets-all}
use Rattle.table.specs.Limits.{entry_head, place_size}
use Rattle.table.specs.Entry.{entry_length, entry_bytes, entry_form, entry_of}
use Rattle.table.specs.Table.{entries_bytes, table_length, table_bytes, is_table, is_memory, appended, Appends}
use Rattle.table.specs.Valid.{Valid}
use Rattle.table.proofs.Writes.{length-entry_bytes}
use Rattle.table.proofs.Append.{append-encode, table-appends}
use Rattle.table.proofs.Decode.{valid-size, decode-memory, decode-table}
use Rattle.formats.specs.Examples.{a_under5, mark_under7, the_two}

-- What the code names is what the examples are.
pub a-made : entry_of 1 5 (65 ∷ []) ≡ a_under5
unfolding entry_of
a-made = refl

pub mark_made : entry_of 2 7 [] ≡ mark_under7
unfolding entry_of
mark_made = refl

pub a-form : entry_form 1 (entry_head + 1) ≡ true
unfolding entry_form
a-form = refl

pub mark-form : entry_form 2 (entry_head + 0) ≡ true
unfolding entry_form
mark-form = refl

a-bytes : Bytes (65 ∷ [])
a-bytes zero = lit< tt
a-bytes (suc i) = lit< tt

-- There is room for each.
a-room : table_length [] + entry_length a_under5 ≤ place_size
unfolding table_length entries_bytes entry_length
a-room = lit≤ tt

mark-room : table_length (a_under5 ∷ []) + entry_length mark_under7 ≤ place_size
unfolding table_length entries_bytes entry_length entry_bytes bytes_of
mark-room = lit≤ tt

-- No entry, the first, and both may stand in a table.
none-valid : Valid []
none-valid = record { keys = lit≤ tt; values = tt; few = lit≤ tt }

one-valid : Valid (a_under5 ∷ [])
one-valid = record { keys = (lit≤ tt, lit≤ tt); values = ((lit≤ tt, a-bytes), tt); few = lit≤ tt }

two-valid : Valid the_two
two-valid =
    record {
      keys = (lit≤ tt, (lit≤ tt, lit≤ tt));
      values = ((lit≤ tt, a-bytes), ((lit≤ tt, λ i. lit< tt), tt));
      few = lit≤ tt;
    }

-- An entry as long as the slice fills it.
module _ (s t : List ℕ) where
  pub filled-value : length s ≡ 13 → t ≡ sets s 0 (entry_bytes (entry_of 1 5 (65 ∷ []))) → t ≡ entry_bytes a_under5
  unfolding entry_length
  filled-value n e = e ∙ rw a-made (sets-all s (entry_bytes a_under5) (length-entry_bytes a_under5 ∙ sym n))

  pub filled-mark : length s ≡ 12 → t ≡ sets s 0 (entry_bytes (entry_of 2 7 [])) → t ≡ entry_bytes mark_under7
  unfolding entry_length
  filled-mark n e = e ∙ rw mark_made (sets-all s (entry_bytes mark_under7) (length-entry_bytes mark_under7 ∙ sym n))

-- One behind the other, from the empty table on.
module _ (s : List ℕ) where
  pub a-appends : s ≡ table_bytes [] → Appends s 1 (65 ∷ [])
  a-appends e = rw e (table-appends 1 (65 ∷ []) a-form [] none-valid (lit≤ tt))

  pub mark-appends : s ≡ table_bytes (a_under5 ∷ []) → Appends s 2 []
  mark-appends e = rw e (table-appends 2 [] mark-form (a_under5 ∷ []) one-valid (lit≤ tt))

  pub a-appended : (t : List ℕ) → s ≡ table_bytes [] → t ≡ appended (entry_of 1 5 (65 ∷ [])) s → t ≡ table_bytes (a_under5 ∷ [])
  a-appended t e h = cc (append-encode [] a_under5 a-room (lit≤ tt), a-made)

  pub mark-appended : (t : List ℕ) → s ≡ table_bytes (a_under5 ∷ []) → t ≡ appended (entry_of 2 7 []) s → t ≡ table_bytes the_two
  mark-appended t e h = cc (append-encode (a_under5 ∷ []) mark_under7 mark-room (lit≤ tt), mark_made)

  -- The table of the two can be searched.
  pub two_size : s ≡ table_bytes the_two → length s ≡ place_size
  two_size e = rw e (valid-size the_two two-valid)

  pub two-memory : s ≡ table_bytes the_two → is_memory s ≡ true
  two-memory e = rw e (decode-memory the_two two-valid)

  pub two-table : s ≡ table_bytes the_two → is_table s ≡ true
  two-table e = rw e (decode-table the_two two-valid (lit≤ tt))
