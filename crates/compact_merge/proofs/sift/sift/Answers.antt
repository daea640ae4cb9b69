-- `sift` meets its contract: an entry that comes out moves to the front, another is passed by.
use Rattle.std.proofs.Common.{Bool, sym, ◌∙◌}
use Rattle.table.specs.Entry.{Entry}
use Rattle.ldc.specs.Tidy.{comes_out}
use Rattle.book.specs.Head.{head_words}
use Rattle.compact_merge.specs.Merge.{store_in}
use Rattle.compact_merge.proofs.Sifts.{sift-seated, sift_in, sift_out}
use Rattle.compact_merge.proofs.sift.sift.Goals as goal
use Rattle.compact_merge.proofs.sift.sift.Goals.{then-comes_out, else-comes_out}

pub comes_out-requires : goal.comes_out-requires
comes_out-requires c =
    let a = c.args in
    let l = c.loop-i in
    let p = c.requires in
    let test : Entry → Bool = comes_out (store_in a.area.now a.cards.now a.lists.now (head_words a.head)) a.n in
    (p.0, (p.1.0, sift-seated test a.area.now a.spots.now a.used p.1.1.0 p.1.1.1 l.spots l.kept l.i l.invariant c.loop-i-test.true))

pub loop-i-preserved : goal.loop-i-preserved
loop-i-preserved c =
    let a = c.args in
    let l = c.loop-i in
    let p = c.requires.1.1 in
    let test : Entry → Bool = comes_out (store_in a.area.now a.cards.now a.lists.now (head_words a.head)) a.n in
    elim c.if-comes_out.branch [
      | then-comes_out w ↦ rw (w.spots-is, w.kept-is)
          (sift_in test a.area.now a.spots.now a.used p.0 p.1 l.spots l.kept l.i l.invariant c.loop-i-test.true
          (sym c.comes_out.ensures ∙ w.if-comes_out.true))
      | else-comes_out w ↦ rw (w.spots-is, w.kept-is)
          (sift_out test a.area.now a.spots.now a.used p.0 p.1 l.spots l.kept l.i l.invariant c.loop-i-test.true
          (sym c.comes_out.ensures ∙ w.if-comes_out.false))
    ]
