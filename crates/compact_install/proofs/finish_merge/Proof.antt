-- `finish_merge` meets its contract: each call does one part of `do_merge`, at the store that the pieces show with any memory table.
use Prim.Native.Nat.{ℕ, ◌≤◌, ◌<◌}
use mathlib.Core.Path.{◌≡◌, refl, ◌∙◌, ap}
use mathlib.Core.List.{List, []}
use native.Mathlib.Omega.{arith}
use borrow.Author.Rules.{rules}
use lib.ListN.{length}
use Rattle.ldc.specs.Layout.{most_places, items_in}
use Rattle.ldc.specs.Lent.{Lent, store_of}
use Rattle.ldc.specs.Tidy.{merged_tables}
use Rattle.book.specs.Head.{head_words}
use Rattle.book.specs.Pieces.{lent}
use Rattle.book_edit.proofs.Fitting.{length-cards}
use Rattle.compact_install.specs.Merge.{Backed}
use Rattle.compact_install.specs.Tables.{placed, Lends}
use Rattle.compact_install.proofs.Linked.{Searchable, searchable}
use Rattle.compact_install.proofs.Merging.{place-below, row-clear, row_below, merge-below, merge-many, merge-done}
use Rattle.compact_install.proofs.Ready.{Ready, ready}
use Rattle.compact_install.proofs.finish_merge.Statement.{statement}
use Rattle.compact_install.proofs.finish_merge.Tie as tie

-- The memory as it was lent, with any memory table.
abbrev found : tie.After-slice_known-1 → (memory : List ℕ) → Lent
found c memory =
    let a = c.args in
    lent a.area.now a.cards.now a.lists.now (head_words a.head) memory

at : (c : tie.After-slice_known-1) (memory : List ℕ) → Backed (found c memory)
    → Ready (found c memory) c.args.n c.args.p c.args.out.now c.args.k
at c memory b =
    let a = c.args in
    ready a.area.now a.cards.now a.lists.now (head_words a.head) a.n a.p a.out.now a.k c.requires refl
    (λ i. omega (arith, c.slice_known-1.given i)) memory b

-- The place is one of the cards.
below : (c : tie.After-slice_known-1) → (c.args.p < length c.args.cards.now) × (length c.args.cards.now ≤ most_places)
below c =
    let m : List ℕ = c.requires.work.memory in
    let r = at c m c.requires.work.backed in
    let s = store_of (found c m) in
    let many = ap length r.shows.cards ∙ length-cards s r.fits in
    let h = place-below s r.sound r.fits c.args.n c.args.p r.merging r.enough in
    (omega arith, omega (arith, r.fits.most))

mul-row : tie.Need-offset_bounds-cards-p
mul-row c = let h = below c.before.before in omega (arith, h.0, h.1)

slice-copy-out-row : tie.Need-slice_copy_out-row
slice-copy-out-row c = (below c.before.before).0

-- ---- the level can be searched

searched : (c : tie.After-slice_known-1)
    → let a = c.args in Searchable a.area.now a.cards.now a.lists.now (head_words a.head) a.n a.p
searched c =
    let a = c.args in
    let g = c.requires in
    searchable (found c g.work.memory) g.work.backed.kept g.work.backed.long g.work.backed.valued (λ i. omega (arith, c.slice_known-1.given i))
    a.n a.p g.merging.lowest g.merging.highest g.merging.on (below c).0

length-of-requires : tie.Need-length_of-requires
length-of-requires c κs = omega (arith, c.requires.merging.highest)

items-requires : tie.Need-items-items-requires
items-requires c κs =
    let k = c in
    let z = searched k.before.before.before.before in
    (z.sized, (rw c.length_of.ensures z.fits, omega (arith, k.requires.merging.highest)))

-- The items that are lent on are the level's.
lent-items : (c : tie.After-items-items)
    → let a = c.args in
    c.items-items.result.now ≡ items_in (length a.cards.now) a.lists.now (head_words a.head) a.n
lent-items c = c.items-items.ensures ∙ rw c.length_of.ensures

find-held-requires : tie.Need-find_held-held-requires
find-held-requires c κs =
    let i = c in
    rw (lent-items i) (searched i.before.before.before.before.before).sought

-- ---- the tables are written

write-all-requires : tie.Need-write_all-done-requires
write-all-requires c κs =
    let k = c in
    let m : List ℕ = k.requires.work.memory in
    record {
      store = store_of (found k.before.before.before.before.before.before.before.before.before m);
      tables = merged_tables (store_of (found k.before.before.before.before.before.before.before.before.before m)) k.args.n k.args.p;
      placing = (at k.before.before.before.before.before.before.before.before.before m k.requires.work.backed).placing;
      few = k.requires.few;
    }

-- What the tables written leave.
abbrev held_at : tie.After-write_all-done → tie.After-find_held-held
held_at c = c.before.before.before.before

abbrev entry : tie.After-write_all-done → tie.After-slice_known-1
entry c = (held_at c).before.before.before.before.before.before

filled : (c : tie.After-write_all-done) (memory : List ℕ) (b : Backed (found (entry c) memory))
    → let s = store_of (found (entry c) memory) in
    let p = placed (entry c).args.n (entry c).args.p (merged_tables s (entry c).args.n (entry c).args.p) s in
    Lends (lent c.write_all-done.new.area c.write_all-done.new.cards c.write_all-done.new.lists (head_words c.write_all-done.result) []) p
filled c memory b = c.write_all-done.ensures _ _ (at (entry c) memory b).placing

free-requires : tie.Need-free-requires
free-requires c κs =
    let w = c in
    let b = (entry w.before.before.before.before.before.before).before in
    let a = b.args in
    let m : List ℕ = b.requires.work.memory in
    let r = at (entry w.before.before.before.before.before.before) m b.requires.work.backed in
    let f = filled w.before.before.before.before.before.before m b.requires.work.backed in
    merge-below (store_of (found (entry w.before.before.before.before.before.before) m)) r.sound r.fits a.n a.p r.merging r.enough
    w.write_all-done.new.area w.write_all-done.new.cards w.write_all-done.new.lists (head_words w.write_all-done.result) f

release-requires : tie.Need-release-requires
release-requires c κs =
    let t = c in
    let w = t in
    let b = (entry w.before.before.before.before.before.before.before.before.before).before in
    let a = b.args in
    let m : List ℕ = b.requires.work.memory in
    let r = at (entry w.before.before.before.before.before.before.before.before.before) m b.requires.work.backed in
    let s = store_of (found (entry w.before.before.before.before.before.before.before.before.before) m) in
    let f = filled w.before.before.before.before.before.before.before.before.before m b.requires.work.backed in
    record {
      clear = row-clear s r.sound r.fits a.n a.p r.merging r.enough a.cards.now r.shows.cards;
      within = λ i h. omega (
        arith,
        row_below s r.sound r.fits a.n a.p r.merging r.enough a.cards.now r.shows.cards i h,
        merge-many s r.sound r.fits a.n a.p r.merging r.enough
            w.write_all-done.new.area w.write_all-done.new.cards w.write_all-done.new.lists (head_words w.write_all-done.result) f t.free.new.cards t.free.ensures,
      );
    }

same_length : tie.Need-shape_of-area
same_length c = search rules

same-length-2 : tie.Need-shape_of-cards
same-length-2 c = search rules

same-length-3 : tie.Need-shape_of-lists
same-length-3 c = search rules

returns : tie.Need-returns
returns c =
    let e = c in
    let t = e in
    let w = t in
    let a = (entry w.before.before.before.before.before.before.before.before.before.before.before).args in
    λ memory b.
    let r = at (entry w.before.before.before.before.before.before.before.before.before.before.before) memory b in
    let s = store_of (found (entry w.before.before.before.before.before.before.before.before.before.before.before) memory) in
    let f = filled w.before.before.before.before.before.before.before.before.before.before.before memory b in
    merge-done s r.sound r.fits a.n a.p r.merging r.enough
    w.write_all-done.new.area w.write_all-done.new.cards w.write_all-done.new.lists (head_words w.write_all-done.result) f
    t.free.new.cards t.free.ensures
    a.cards.now e.release.new.cards memory r.shows.cards
    (held_at w.before.before.before.before.before.before.before.before.before.before.before).find_held-held.result (omega (arith, (held_at w.before.before.before.before.before.before.before.before.before.before.before).find_held-held.type_inv)) (held_at w.before.before.before.before.before.before.before.before.before.before.before).find_held-held.ensures
    e.release.ensures r.memory

pub finish_merge_spec : {M : Type 1} → statement M
finish_merge_spec =
    tie.close (tie.spec mul-row slice-copy-out-row length-of-requires items-requires find-held-requires write-all-requires free-requires release-requires same_length same-length-2 same-length-3 returns)
