-- `write_all` meets its contract: one table more is written by the law of one table. Behind the loop the places noted go into the level's list.
use Rattle.std.proofs.Common.{arith, rules, ℕ, ◌≡◌, ◌+◌, ◌-◌, ◌*◌, ◌≤◌, ◌<◌, List, take, length, refl, sym, ap, ◌∙◌}
use lib.Seq.{length-sets, length-take-le}
use Rattle.table.specs.Limits.{place_size}
use Rattle.table.specs.Table.{place_of}
use Rattle.ldc.specs.Layout.{most_places}
use Rattle.ldc.specs.Store.{Store}
use Rattle.ldc.specs.Place.{places_taken}
use Rattle.book.specs.Head.{head_words}
use Rattle.compact_merge.specs.Merge.{merge_tables}
use Rattle.compact_install.proofs.Many.{sofar-none, sofar-ready, sofar-table, sofar-place, sofar-more, tables-within}
use Rattle.compact_install.proofs.Placed.{placed-listing, placed_on, placed-room, placed-done}
use Rattle.compact_install.proofs.write.write_all.Goals as goal

pub slice_bounds-write_table-end : goal.slice_bounds-write_table-end
slice_bounds-write_table-end c =
    let h : c.loop-i.i * place_size + place_size ≤ length c.args.out.now =
    omega (arith, tables-within c.args.out.now c.args.k c.requires.tables c.requires.placing.told, c.loop-i-test.true) in
    search rules

pub write_table-new-requires : goal.write_table-new-requires
write_table-new-requires c =
    let i = c.loop-i.i in
    let g = c.requires.placing in
    let f = c.loop-i.invariant _ _ g.fits g.lends.shows g.told g.room in
    let e : i * place_size + place_size - i * place_size ≡ place_size = omega arith in
    let r = sofar-ready _ _ _ _ _ c.args.out.now c.args.k i c.requires.store c.requires.tables g.told c.loop-i-test.true f in
    let t = sofar-table _ _ _ _ _ c.args.out.now c.args.k i c.requires.store c.requires.tables g.told c.loop-i-test.true f in
    (r.0, (rw e t, r.1))

pub overflow_cast-place : goal.overflow_cast-place
overflow_cast-place c =
    let i = c.loop-i.i in
    let g = c.requires.placing in
    let f = c.loop-i.invariant _ _ g.fits g.lends.shows g.told g.room in
    let e : i * place_size + place_size - i * place_size ≡ place_size = omega arith in
    let below : c.write_table-new.result.place < most_places =
    sofar-place _ _ _ _ _ c.args.out.now c.args.k i c.requires.store c.requires.tables g.told c.loop-i-test.true f _ _ _ _
    (rw e at c.write_table-new.ensures.0) (rw e at c.write_table-new.ensures.1) in
    omega (arith, below)

pub loop-i-preserved : goal.loop-i-preserved
loop-i-preserved c =
    let i = c.loop-i.i in
    let e : i * place_size + place_size - i * place_size ≡ place_size = omega arith in
    λ s ts f sh h r.
    sofar-more _ _ _ _ _ c.args.out.now c.args.k i s ts h c.loop-i-test.true (c.loop-i.invariant s ts f sh h r) _ _ _ _
    (rw e at c.write_table-new.ensures.0) (rw e at c.write_table-new.ensures.1)

pub replace-requires : goal.replace-requires
replace-requires c =
    let a = c.args in
    let l = c.loop-i in
    let g = c.requires.placing in
    let f = l.invariant _ _ g.fits g.lends.shows g.told g.room in
    let slots : length l.taken ≡ merge_tables = ap length f.listed ∙ length-sets _ 0 (places_taken (take l.i c.requires.tables) c.requires.store) in
    let long = length-take-le a.k l.taken (omega (arith, slots, c.requires.few)) in (
      placed-listing a.area.now a.cards.now a.lists.now (head_words a.head) a.n a.p a.out.now a.k c.requires.store c.requires.tables g
          l.area l.cards (head_words l.noted) _ l.taken l.i f c.loop-i-test.false c.requires.few,
      (
        placed_on a.area.now a.cards.now a.lists.now (head_words a.head) a.n a.p a.out.now a.k c.requires.store c.requires.tables g
            l.area l.cards (head_words l.noted) _ l.taken l.i f c.loop-i-test.false c.requires.few,
        rw long (placed-room a.area.now a.cards.now a.lists.now (head_words a.head) a.n a.p a.out.now a.k c.requires.store c.requires.tables g
            l.area l.cards (head_words l.noted) _ l.taken l.i f c.loop-i-test.false c.requires.few),
      ),
    )

pub returns : goal.returns
returns c =
    let a = c.args in
    let l = c.loop-i in
    λ s ts g.
    placed-done a.area.now a.cards.now a.lists.now (head_words a.head) a.n a.p a.out.now a.k s ts g
    l.area l.cards (head_words l.noted) _ l.taken l.i (l.invariant s ts g.fits g.lends.shows g.told g.room) c.loop-i-test.false c.requires.few
    c.replace.new.lists (head_words c.replace.result) c.replace.ensures.0 c.replace.ensures.1
