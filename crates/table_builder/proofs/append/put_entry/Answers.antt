-- `put_entry` meets its contract: length, kind, key and value, one behind the other, are the bytes of the entry.
-- The writes are shown over plain lists first, so that no tactic has to read the records of the whole function.
use Rattle.std.proofs.Common.{ℕ, List, true, ◌≡◌, ◌+◌, length, arith}
use Rattle.std.proofs.lemmas.List.Edits.{sets}
use Rattle.coding.specs.Number.{bytes_of}
use Rattle.table.specs.Limits.{entry_head}
use Rattle.table.specs.Entry.{entry_form, entry_of, entry_bytes}
use Rattle.table.proofs.Form.{formed}
use Rattle.table.proofs.Writes.{entry-written}
use Rattle.table_builder.proofs.append.put_entry.Goals as goal

-- The four writes.
written : (s s1 s2 s3 s4 : List ℕ) (at kind key : ℕ) (v : List ℕ) → entry_form kind (entry_head + length v) ≡ true
    → s1 ≡ sets s at (bytes_of 2 (entry_head + length v))
    → s2 ≡ sets s1 (at + 2) (bytes_of 2 kind)
    → s3 ≡ sets s2 (at + 4) (bytes_of 8 key)
    → s4 ≡ sets s3 (at + entry_head) v
    → s4 ≡ sets s at (entry_bytes (entry_of kind key v))
written s s1 s2 s3 s4 at kind key v h e1 e2 e3 e4 = cc (entry-written s at kind key v h)

-- An entry of the form is short.
pub overflow_cast-value : goal.overflow_cast-value
overflow_cast-value c = omega (arith, formed c.args.kind (entry_head + length c.args.value.now) c.requires.0)

pub returns : goal.returns
returns c =
    let a = c.args in
    written a.s.now _ _ _ _ a.at a.kind a.key.value a.value.now c.requires.0
    c.put_u16.ensures c.put_u16-2.ensures c.put_u64.ensures c.copy.ensures
