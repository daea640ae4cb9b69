-- `build_with` meets its contract: its three calls are the three parts of a put.
use Rattle.std.proofs.Common.{◌≡◌, [], sym, ap, ◌∙◌, arith}
use native.Mathlib.Nat.{sub-zero}
use Rattle.table.specs.Limits.{table_head}
use Rattle.table.specs.Entry.{entry_of}
use Rattle.table.specs.Table.{entries, entries_at, table_bytes, appended}
use Rattle.table.specs.Search.{count_below}
use Rattle.table.proofs.Position.{position_first}
use Rattle.table.proofs.Taken.{room-appends}
use Rattle.memtable.specs.Appends.{appends}
use Rattle.memtable.proofs.Split.{next}
use Rattle.memtable.proofs.Build.{next-is, few-below, few-next, built, room-first, room-second, room-third}
use Rattle.memtable.proofs.put.build_with.Goals as goal

pub append_up_to-requires : goal.append_up_to-requires
append_up_to-requires c =
    let a = c.args in
    let i = c.first_from-here.ensures.0 in
    let few = few-below a.to.now a.s.now a.held a.kind a.key.value a.value.now c.requires in (
      record { place = c.requires.place; good = c.requires.good; stands = sym (position_first a.s.now) },
      (omega arith, rw (c.clear.ensures, i) (room-first a.to.now a.s.now a.held a.kind a.key.value a.value.now c.requires)),
    )

pub append-requires : goal.append-requires
append-requires c =
    let a = c.args in
    let i = c.first_from-here.ensures.0 in
    let first : c.append_up_to.new.to ≡ appends (entries_at (count_below a.key.value (entries a.s.now)) a.s.now table_head) (table_bytes []) =
    c.append_up_to.ensures ∙ rw (sub-zero c.first_from-here.result.index, i, c.clear.ensures) in
    room-appends _ a.kind a.value.now
    (rw first (room-second a.to.now a.s.now a.held a.kind a.key.value a.value.now c.requires)) c.requires.form

pub pass_entry-requires : goal.pass_entry-requires
pass_entry-requires c =
    let a = c.args in
    let f = c.first_from-here.ensures in
    let few = few-below a.to.now a.s.now a.held a.kind a.key.value a.value.now c.requires in
    (record { place = c.requires.place; good = c.requires.good; stands = f.1 }, λ t. omega (arith, few.1 t))

pub append_up_to-requires-2 : goal.append_up_to-requires-2
append_up_to-requires-2 c =
    let a = c.args in
    let f = c.first_from-here.ensures.0 in
    let first : c.append_up_to.new.to ≡ appends (entries_at (count_below a.key.value (entries a.s.now)) a.s.now table_head) (table_bytes []) =
    c.append_up_to.ensures ∙ rw (sub-zero c.first_from-here.result.index, f, c.clear.ensures) in
    let second = c.append.ensures ∙ ap (appended (entry_of a.kind a.key.value a.value.now)) first in
    let index : c.pass_entry.result.index ≡ next a.key.value (entries a.s.now) =
    c.pass_entry.ensures.0 ∙ rw f (sym (next-is a.to.now a.s.now a.held a.kind a.key.value a.value.now c.requires)) in
    let few = few-next a.to.now a.s.now a.held a.kind a.key.value a.value.now c.requires in (
      record { place = c.requires.place; good = c.requires.good; stands = c.pass_entry.ensures.1 },
      (
        omega (arith, c.count.ensures),
        rw (second, c.count.ensures, index) (room-third a.to.now a.s.now a.held a.kind a.key.value a.value.now c.requires),
      ),
    )

pub returns : goal.returns
returns c =
    let a = c.args in
    let f = c.first_from-here.ensures.0 in
    let first : c.append_up_to.new.to ≡ appends (entries_at (count_below a.key.value (entries a.s.now)) a.s.now table_head) (table_bytes []) =
    c.append_up_to.ensures ∙ rw (sub-zero c.first_from-here.result.index, f, c.clear.ensures) in
    let second = c.append.ensures ∙ ap (appended (entry_of a.kind a.key.value a.value.now)) first in
    let index : c.pass_entry.result.index ≡ next a.key.value (entries a.s.now) =
    c.pass_entry.ensures.0 ∙ rw f (sym (next-is a.to.now a.s.now a.held a.kind a.key.value a.value.now c.requires)) in
    c.append_up_to-2.ensures
    ∙ rw (second, c.count.ensures, c.pass_entry.ensures.1, index) (built a.to.now a.s.now a.held a.kind a.key.value a.value.now c.requires)
