-- `merge_into` meets its contract: what is gathered and sifted is what comes out, and the tables of it are written.
use Rattle.std.proofs.Common.{◌≡◌, ◌≤◌, length, refl, arith}
use Rattle.coding.specs.Number.{Bytes}
use Rattle.book.specs.Head.{head_words}
use Rattle.compact_merge.specs.Merge.{merge_entries}
use Rattle.compact_merge.proofs.Merged.{tables-cut}
use Rattle.compact_merge.proofs.Comes.{gathered-seated, comes-out, stand}
use Rattle.compact_merge.proofs.tables.merge_into.Goals as goal

pub sift-left-requires : goal.sift-left-requires
sift-left-requires c =
    let a = c.args in
    let bytes : Bytes a.area.now = λ i. omega (arith, c.type_inv.area i) in
    let p = c.requires in
    let s = c.in_sources-used in
    let inside : s.result ≤ merge_entries = s.ensures.inside in
    let wide : length s.new.spots ≡ merge_entries = s.auto.spots in
    (p.0, (p.1.0, (omega (arith, inside, wide), gathered-seated a.area.now a.cards.now p.0.legible bytes a.p p.1.1.0 _ _ _ _ _ refl s.ensures)))

pub write_tables-requires : goal.write_tables-requires
write_tables-requires c =
    let a = c.args in
    let bytes : Bytes a.area.now = λ i. omega (arith, c.type_inv.area i) in
    let p = c.requires in
    let s = c.in_sources-used in
    let f = c.sift-left in
    let inside : s.result ≤ merge_entries = s.ensures.inside in
    let wide : length s.new.spots ≡ merge_entries = s.auto.spots in (
      omega (arith, inside, f.ensures.few),
      (
        stand a.area.now a.cards.now p.0.legible bytes a.p p.1.1.0 _ _ _ _ _ refl s.ensures
            a.lists.now (head_words a.head) a.n _ _ f.ensures (omega (arith, inside, f.auto.spots, wide)),
        p.1.1.1,
      ),
    )

pub returns : goal.returns
returns c =
    let a = c.args in
    let bytes : Bytes a.area.now = λ i. omega (arith, c.type_inv.area i) in
    let p = c.requires in
    let out = comes-out a.area.now a.cards.now p.0.legible bytes a.p p.1.1.0 _ _ _ _ _ refl
    c.in_sources-used.ensures a.lists.now (head_words a.head) a.n _ _ c.sift-left.ensures in
    rw (tables-cut a.area.now a.cards.now a.lists.now (head_words a.head) a.n a.p) (rw out at c.write_tables.ensures)
