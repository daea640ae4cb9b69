-- `copy_entry` meets its contract: kind, key and value that were read make the entry.
use Rattle.std.proofs.Common.{sym, ◌∙◌, arith}
use Rattle.table.proofs.Taken.{entry_read, bytes-long}
use Rattle.table_builder.proofs.append.copy_entry.Goals as goal

pub returns : goal.returns
returns c =
    let len = c.from-len.ensures ∙ c.length_at.ensures in
    let e = entry_read c.args.s.now c.args.from c.kind_at-kind.result c.key_at-key.result.value c.from-len.result
    c.kind_at-kind.ensures c.key_at-key.ensures len in
    let n = bytes-long c.args.s.now c.args.from c.requires.1.0.form (omega (arith, c.requires.0, c.requires.1.0)) in
    (c.put_entry.ensures ∙ rw e, (len ∙ sym n, omega (arith, c.requires.1.0, len)))
