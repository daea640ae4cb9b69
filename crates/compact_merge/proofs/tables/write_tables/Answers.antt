-- `write_tables` meets its contract: one table more is written into its part of the buffer, and at the end none is left.
use Rattle.std.proofs.Common.{◌≡◌, ◌+◌, ◌*◌, ◌-◌, ◌≤◌, ◌<◌, ℕ, List, length, refl, ◌∙◌, arith}
use lib.Seq.{length-sets}
use Rattle.coding.proofs.Sets.{length_part, sets-back}
use Rattle.table.specs.Limits.{table_limit, place_size}
use Rattle.compact_merge.specs.Spots.{standing}
use Rattle.compact_merge.proofs.Spots.{standing-long}
use Rattle.compact_merge.proofs.Written.{write-turn, write_done}
use Rattle.compact_merge.proofs.tables.write_tables.Goals as goal

pub loop-k-preserved : goal.loop-k-preserved
loop-k-preserved c =
    let a = c.args in
    let l = c.loop-k in
    let t = c.fill_table in
    let s = c.requires.1.0 in
    let at : ℕ = l.k * place_size in
    let e : at + place_size - at ≡ place_size = omega arith in
    let some : l.k * table_limit < a.n = omega (arith, c.div_ceil-tables.ensures, c.loop-k-test.true) in
    let fits : at + place_size ≤ length l.out = omega (arith, some, l.invariant.long, c.requires.0, c.requires.1.1) in
    let part : List ℕ = t.new.to in
    let kept : length part ≡ place_size = t.auto.to ∙ rw e (length_part l.out at place_size fits) in
    rw (e, sets-back l.out at place_size part fits kept)
    (write-turn (standing a.area.now a.spots.now a.n) a.out.now l.out l.k l.invariant _ part s.keys s.values
    (omega (arith, some, standing-long a.area.now a.spots.now a.n s)) refl (length-sets l.out at part) t.ensures)

pub returns : goal.returns
returns c =
    let a = c.args in
    let l = c.loop-k in
    let all : c.div_ceil-tables.result ≡ l.k = omega (arith, l.auto.k-end, c.loop-k-test.false) in
    rw all
    (write_done (standing a.area.now a.spots.now a.n) a.out.now l.out l.k l.invariant
    (omega (arith, all, c.div_ceil-tables.ensures, standing-long a.area.now a.spots.now a.n c.requires.1.0)))
