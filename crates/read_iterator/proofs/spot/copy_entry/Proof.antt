-- `copy_entry` meets its contract: the entry is copied from the spot's place, or from the memory table.
use mathlib.Core.Path.{◌≡◌, ◌∙◌}
use mathlib.Core.List.{◌++◌}
use Prim.Native.Nat.{◌/◌}
use borrow.Author.Rules.{rules}
use Rattle.table.specs.Limits.{place_size}
use Rattle.table.specs.Table.{place_of}
use Rattle.read_iterator.proofs.Places.{in_area, in_memory, spot-within, seated-there, shown-there}
use Rattle.read_iterator.proofs.spot.copy_entry.Statement.{statement}
use Rattle.read_iterator.proofs.spot.copy_entry.Tie as tie

bytes-of-requires : tie.Need-bytes_of-requires
bytes-of-requires c κs = search rules

-- Which bytes are read.
there : (c : tie.After-bytes_of)
    → let a = c.args in c.bytes_of.result.now ≡ place_of (a.area.now ++ a.memory.now) (a.spot / place_size)
there c =
    let b = c in
    let a = b.args in
    c.bytes_of.ensures.0 ∙ in_area a.area.now a.memory.now b.requires.0 a.spot c.if-spot-area.true

behind : (c : tie.Else-spot-area) → let a = c.args in a.memory.now ≡ place_of (a.area.now ++ a.memory.now) (a.spot / place_size)
behind c =
    let b = c in
    let a = b.args in
    in_memory a.area.now a.memory.now b.requires.0 a.spot c.if-spot-area.false (spot-within a.area.now a.memory.now b.requires.0 a.spot b.requires.1.0)

copy-entry-requires : tie.Need-copy_entry-requires
copy-entry-requires c κs =
    let d = c in
    let b = d in
    (d.bytes_of.ensures.1, (seated-there _ b.args.spot b.requires.1.0 d.bytes_of.result.now (there d.before), b.requires.1.1))

same_length : tie.Need-shape_of-answer-then-spot-area
same_length c = search rules

returns : tie.Need-returns-then-spot-area
returns c =
    let e = c in
    let d = e in
    let b = d in
    rw (← (shown-there _ b.args.spot b.requires.1.0 d.bytes_of.result.now (there d.before.before.before.before))) e.copy_entry.ensures

copy-entry-requires-2 : tie.Need-copy_entry-requires-2
copy-entry-requires-2 c κs =
    let d = c in
    let b = d in
    (b.requires.0.table, (seated-there _ b.args.spot b.requires.1.0 b.args.memory.now (behind d.before), b.requires.1.1))

same-length-2 : tie.Need-shape_of-answer
same-length-2 c = search rules

returns-2 : tie.Need-returns
returns-2 c =
    let e = c in
    let d = e in
    let b = d in
    rw (← (shown-there _ b.args.spot b.requires.1.0 b.args.memory.now (behind d.before.before.before.before))) e.copy_entry-2.ensures

pub copy_entry_spec : {M : Type 1} → statement M
copy_entry_spec =
    tie.close (tie.spec bytes-of-requires copy-entry-requires same_length returns copy-entry-requires-2 same-length-2 returns-2)
