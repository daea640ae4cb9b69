-- `append` meets its contract: it does the three writes of `appended`.
use Rattle.std.proofs.Common.{ℕ, List, ◌≡◌, ◌+◌, ◌∙◌, length}
use Rattle.std.proofs.lemmas.List.Edits.{sets}
use Rattle.coding.specs.Number.{bytes_of}
use Rattle.table.specs.Limits.{entry_head}
use Rattle.table.specs.Entry.{entry_of, entry_bytes, length_at}
use Rattle.table.specs.Table.{count_of, appended, Appends}
use Rattle.table.proofs.Writes.{append-written}
use Rattle.table_builder.proofs.append.append.Goals as goal

-- The three writes, at a length in use l and a count n.
written : (s : List ℕ) (kind : ℕ) (v : List ℕ) → Appends s kind v → (key l n : ℕ) (s1 s2 s3 : List ℕ) → l ≡ length_at s 0 → n ≡ count_of s
    → s1 ≡ sets s l (entry_bytes (entry_of kind key v))
    → s2 ≡ sets s1 0 (bytes_of 2 (l + entry_head + length v))
    → s3 ≡ sets s2 4 (bytes_of 2 (n + 1))
    → s3 ≡ appended (entry_of kind key v) s
written s kind v p key l n s1 s2 s3 el en e1 e2 e3 = cc (append-written s kind key v p.form)

pub returns : goal.returns
returns c =
    let a = c.args in
    written a.s.now a.kind a.value.now c.requires a.key.value _ _ _ _ _
    (c.from-end.ensures ∙ c.length_at.ensures) c.count-n.ensures c.put_entry.ensures c.put_u16.ensures c.put_u16-2.ensures
