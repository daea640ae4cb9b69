-- `write_counts` meets its contract: three numbers, one behind the other.
use Prim.Native.Nat.{◌+◌}
use mathlib.Core.Path.{◌∙◌, ap}
use borrow.Author.Rules.{rules}
use lib.Seq.{sets}
use Rattle.coding.specs.Number.{bytes_of}
use Rattle.serve_read.proofs.Probed.{counts-written}
use Rattle.serve_read.proofs.probe.write_counts.Statement.{statement}
use Rattle.serve_read.proofs.probe.write_counts.Tie as tie

put-u16-requires : tie.Need-put_u16-requires
put-u16-requires c κs = search rules

add-put-u16 : tie.Need-overflow_add-at
add-put-u16 c = search rules

put-u16-requires-2 : tie.Need-put_u16-requires-2
put-u16-requires-2 c κs = search rules

add-put-u32 : tie.Need-overflow_add-at-2
add-put-u32 c = search rules

put-u32-requires : tie.Need-put_u32-requires
put-u32-requires c κs = search rules

same_length : tie.Need-shape_of-answer
same_length c = search rules

returns : tie.Need-returns
returns c =
    let three = c in
    let two = three in
    let one = two in
    let a = one.args in
    three.put_u32.ensures
    ∙ ap (λ x. sets x (a.at + 4) (bytes_of 4 a.bits)) two.put_u16-2.ensures
    ∙ ap (λ x. sets (sets x (a.at + 2) (bytes_of 2 a.tables)) (a.at + 4) (bytes_of 4 a.bits)) one.put_u16.ensures
    ∙ counts-written a.answer.now a.at a.found a.tables a.bits

pub write_counts_spec : {M : Type 1} → statement M
write_counts_spec =
    tie.close (tie.spec put-u16-requires add-put-u16 put-u16-requires-2 add-put-u32 put-u32-requires same_length returns)
