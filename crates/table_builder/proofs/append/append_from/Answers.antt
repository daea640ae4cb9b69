-- `append_from` meets its contract: kind, key and value that were read make the entry. An entry of the form has at least its head.
use Rattle.std.proofs.Common.{◌∙◌, arith}
use Rattle.table.specs.Entry.{kind_at, length_at}
use Rattle.table.proofs.Form.{formed}
use Rattle.table.proofs.Taken.{entry_read, appends-read}
use Rattle.table_builder.proofs.append.append_from.Goals as goal

pub length_at-requires : goal.length_at-requires
length_at-requires c = omega (arith, formed (kind_at c.args.s.now c.args.at) (length_at c.args.s.now c.args.at) c.requires.1.0)

pub kind_at-kind-requires : goal.kind_at-kind-requires
kind_at-kind-requires c = omega (arith, formed (kind_at c.args.s.now c.args.at) (length_at c.args.s.now c.args.at) c.requires.1.0)

pub key_at-key-requires : goal.key_at-key-requires
key_at-key-requires c = omega (arith, formed (kind_at c.args.s.now c.args.at) (length_at c.args.s.now c.args.at) c.requires.1.0)

pub slice_bounds-append-count : goal.slice_bounds-append-count
slice_bounds-append-count c = omega (arith, formed (kind_at c.args.s.now c.args.at) (length_at c.args.s.now c.args.at) c.requires.1.0)

pub slice_bounds-append-start : goal.slice_bounds-append-start
slice_bounds-append-start c = omega (arith, formed (kind_at c.args.s.now c.args.at) (length_at c.args.s.now c.args.at) c.requires.1.0)

pub append-requires : goal.append-requires
append-requires c =
    appends-read c.args.s.now c.args.at c.kind_at-kind.result c.key_at-key.result.value c.from-len.result
    c.kind_at-kind.ensures c.key_at-key.ensures (c.from-len.ensures ∙ c.length_at.ensures) c.requires.1.0 c.requires.1.1
    c.args.to.now c.requires.0

pub returns : goal.returns
returns c =
    let e = entry_read c.args.s.now c.args.at c.kind_at-kind.result c.key_at-key.result.value c.from-len.result
    c.kind_at-kind.ensures c.key_at-key.ensures (c.from-len.ensures ∙ c.length_at.ensures) in
    c.append.ensures ∙ rw e
