-- `keep_values` meets its contract: a value comes to the front, a delete mark does not stay there.
use Rattle.read_iterator.proofs.Sifting.{sift-begins, sift-seated, sift-keeps, sift-drops}
use Rattle.read_iterator.proofs.keep_values.Goals as goal
use Rattle.read_iterator.proofs.keep_values.Goals.{then-is_value, else-is_value}

pub loop-i-init : goal.loop-i-init
loop-i-init c =
    let a = c.args in
    let p = c.requires.1 in
    sift-begins _ a.keys.now a.spots.now a.from a.n p.1.0 p.1.1.0 p.1.1.1 p.0

pub is_value-requires : goal.is_value-requires
is_value-requires c =
    let a = c.args in
    let p = c.requires.1 in
    let l = c.loop-i in
    (c.requires.0, sift-seated _ a.keys.now a.spots.now a.from a.n p.1.0 p.1.1.0 p.1.1.1 l.keys l.spots l.kept l.i l.invariant c.loop-i-test.true)

pub loop-i-preserved : goal.loop-i-preserved
loop-i-preserved c =
    let a = c.args in
    let p = c.requires.1 in
    let l = c.loop-i in
    let v = c.is_value in
    elim c.if-is_value.branch [
      | then-is_value w ↦ sift-keeps _ a.keys.now a.spots.now a.from a.n p.1.0 p.1.1.0 p.1.1.1 l.keys l.spots l.kept l.i l.invariant
          c.loop-i-test.true c.if-is_value.kept v.result v.ensures w.if-is_value.true w.kept-is
      | else-is_value w ↦ sift-drops _ a.keys.now a.spots.now a.from a.n p.1.0 p.1.1.0 p.1.1.1 l.keys l.spots l.kept l.i l.invariant
          c.loop-i-test.true c.if-is_value.kept v.result v.ensures w.if-is_value.false w.kept-is
    ]
