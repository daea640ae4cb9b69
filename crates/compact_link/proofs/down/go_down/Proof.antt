-- `go_down` meets its contract: the parts of the step, for every memory table, make the memory of the store after it.
use Prim.Native.Nat.{ℕ, suc, ◌+◌, ◌<◌}
use mathlib.Core.Path.{◌≡◌, refl, sym, ◌∙◌, ap}
use mathlib.Core.List.{List, []}
use native.Mathlib.Omega.{arith}
use native.Mathlib.Numerals.{add-one}
use borrow.Author.Rules.{rules}
use lib.ListN.{length}
use Rattle.table.specs.Search.{greatest_key}
use Rattle.ldc.specs.Store.{size, table, level}
use Rattle.ldc.specs.Layout.{level_count, items_in}
use Rattle.ldc.specs.Lent.{Lent, store_of, lent_of}
use Rattle.ldc.specs.Steps.{leaves}
use Rattle.book.specs.Head.{head_words, marked}
use Rattle.book.specs.Pieces.{lent}
use Rattle.compact_link.specs.Down.{Ready}
use Rattle.compact_link.proofs.Downs as ready
use Rattle.compact_link.proofs.Listings as listings
use Rattle.compact_link.proofs.down.go_down.Statement.{statement}
use Rattle.compact_link.proofs.down.go_down.Tie as tie

greatest-requires : tie.Need-greatest-mark-requires
greatest-requires c κs = ready.ready-tabled _ _ _ c.requires.ready

add-length-of : tie.Need-overflow_add-n
add-length-of c = omega (arith, ready.ready-level _ _ _ c.requires.ready)

length-of-requires : tie.Need-length_of-below-requires
length-of-requires c κs = omega (arith, ready.ready-level _ _ _ c.requires.ready)

with-mark-requires : tie.Need-with_mark-marked-requires
with-mark-requires c κs = omega (arith, ready.ready-level _ _ _ c.requires.ready)

cast-item : tie.Need-overflow_cast-item
cast-item c =
    let r = c.requires.ready in
    omega (arith, ready.ready-carded _ _ _ r, (ready.ready-places _ _ _ r).1)

-- The lent memory with a memory table.
abbrev found : tie.Start → List ℕ → Lent
found b memory = lent b.args.area.now b.args.cards.now b.args.lists.now (head_words b.args.head) memory

-- The mark is set to the table's greatest own key.
mark : (c : tie.After-with_mark-marked) (memory : List ℕ)
    → let b = c in
    Ready (found b.before.before.before.before.before memory) b.args.n b.args.p
    → head_words c.with_mark-marked.result ≡ marked b.args.n (greatest_key (table (store_of (found b.before.before.before.before.before memory)) b.args.p)) (head_words b.args.head)
mark c memory r =
    let b = c in
    let m = found b.before.before.before.before.before memory in
    c.with_mark-marked.ensures
    ∙ ap (λ (k : ℕ). marked b.args.n k (head_words b.args.head))
    (c.greatest-mark.ensures ∙ ap greatest_key (sym (ready.ready-table m b.args.n b.args.p r)))

slice-aggregate-replace : tie.Need-slice_bounds-replace-end
slice-aggregate-replace c = search rules

replace-requires : tie.Need-replace-left-requires
replace-requires c κs =
    let k = c in
    let b = k in
    let r = b.requires.ready in
    let m = found b.before.before.before.before.before.before.before.before b.requires.memory in
    let n = b.args.n in
    let p = b.args.p in
    let t = listings.leave-ready (store_of m) (ready.ready-fits m n p r) n p (omega (arith, ready.ready-level m n p r)) r.chosen.on
    (length m.cards) m.lists m.head (head_words k.with_mark-marked.result) (ready.ready-size m n p r) (ready.ready-shown m n p r).0 (ready.ready-shown m n p r).1
    (mark k.before.before.before b.requires.memory r) in
    (t.0, (t.1.0, omega (arith, t.1.1)))

add-join : tie.Need-overflow_add-n-then-below-eq0
add-join c = omega (arith, ready.ready-level _ _ _ c.requires.ready)

-- The table has left its level.
left : (c : tie.After-replace-left) (memory : List ℕ)
    → let b = c in
    Ready (found b.before.before.before.before.before.before.before.before.before memory) b.args.n b.args.p
    → let v = leaves b.args.n b.args.p (store_of (found b.before.before.before.before.before.before.before.before.before memory)) in
    (c.replace-left.new.lists ≡ (lent_of v).lists) × (head_words c.replace-left.result ≡ (lent_of v).head)
left c memory r =
    let k = c in
    let b = k in
    let m = found b.before.before.before.before.before.before.before.before.before memory in
    let n = b.args.n in
    let p = b.args.p in
    listings.left (store_of m) (ready.ready-fits m n p r) n p (omega (arith, ready.ready-level m n p r)) r.chosen.on
    (length m.cards) m.lists m.head (head_words k.with_mark-marked.result) (ready.ready-size m n p r) (ready.ready-shown m n p r).0 (ready.ready-shown m n p r).1
    (mark k.before.before.before.before memory r) c.replace-left.new.lists (head_words c.replace-left.result) c.replace-left.ensures.0 c.replace-left.ensures.1

-- How many tables there are below.
long : (c : tie.After-length_of-below) (memory : List ℕ)
    → let b = c in
    Ready (found b.before.before.before.before memory) b.args.n b.args.p
    → length (level (store_of (found b.before.before.before.before memory)) (suc b.args.n)) ≡ c.length_of-below.result
long c memory r =
    let b = c in
    let n = b.args.n in
    rw (← (add-one n)) (ready.ready-long (found b.before.before.before.before memory) n b.args.p r (n + 1) (omega (arith, ready.ready-level _ _ _ r)) ∙ sym c.length_of-below.ensures)

-- There are none, and as many places as before.
bare : (c : tie.After-replace-left) (memory : List ℕ)
    → let b = c in
    Ready (found b.before.before.before.before.before.before.before.before.before memory) b.args.n b.args.p
    → let v = leaves b.args.n b.args.p (store_of (found b.before.before.before.before.before.before.before.before.before memory)) in
    (level v (b.args.n + 1) ≡ []) × (length b.args.cards.now ≡ size v)
bare c memory r =
    let t = c in
    let l = t in
    let b = l in
    let m = found b.before.before.before.before.before.before.before.before.before memory in
    let n = b.args.n in
    let none : length (level (store_of m) (suc n)) ≡ 0 = long l.before.before.before.before.before memory r ∙ t.if-below-eq0.true in
    (rw (add-one n) (ready.left-empty m n b.args.p r none), unfold leaves size in ready.ready-size m n b.args.p r)

join-requires : tie.Need-join-joined-requires
join-requires c κs =
    let l = c in
    let b = l in
    let r = b.requires.ready in
    let m = found b.before.before.before.before.before.before.before.before.before.before.before.before b.requires.memory in
    let n = b.args.n in
    let p = b.args.p in
    let e = bare l.before.before.before b.requires.memory r in
    let g = left l.before.before.before b.requires.memory r in
    listings.join-ready (leaves n p (store_of m)) (listings.fits-left (store_of m) (ready.ready-fits m n p r) n p (omega (arith, ready.ready-level m n p r)) r.chosen.on) (n + 1) p
    (omega (arith, ready.ready-level m n p r)) e.0 (length m.cards) l.replace-left.new.lists (head_words l.replace-left.result) e.1 g.0 g.1

same_length : tie.Need-shape_of-lists-then-below-eq0
same_length c = search rules

returns : tie.Need-returns-then-below-eq0
returns c =
    let l = c in
    let j = c.join-joined in
    let b = l in
    let n = b.args.n in
    let p = b.args.p in
    λ memory r.
    let m = found b.before.before.before.before.before.before.before.before.before.before.before.before.before.before.before memory in
    let none : length (level (store_of m) (suc n)) ≡ 0 = long l.before.before.before.before.before.before.before.before.before.before.before memory r ∙ l.if-below-eq0.true in
    let e = bare l.before.before.before.before.before.before memory r in
    let g = left l.before.before.before.before.before.before memory r in
    let w = listings.joined (leaves n p (store_of m)) (listings.fits-left (store_of m) (ready.ready-fits m n p r) n p (omega (arith, ready.ready-level m n p r)) r.chosen.on) (n + 1) p
    (omega (arith, ready.ready-level m n p r)) e.0 (length m.cards) l.replace-left.new.lists (head_words l.replace-left.result) e.1 g.0 g.1
    j.new.lists (head_words j.result) j.ensures.0 j.ensures.1 in
    rw (ready.moves m n p r none)
    (record { number = refl; left = ready.moved-lent m n p r j.new.lists (head_words j.result) (rw (add-one n) at w.0) (rw (add-one n) at w.1) })

add-items : tie.Need-overflow_add-n-2
add-items c = omega (arith, ready.ready-level _ _ _ c.requires.ready)

items-requires : tie.Need-items-requires
items-requires c κs =
    let l = c in
    let b = l in
    let r = b.requires.ready in
    let h : b.args.n + 1 < level_count = omega (arith, ready.ready-level _ _ _ r) in
    (ready.ready-lists _ _ _ r, (rw l.length_of-below.ensures (ready.ready-length _ _ _ r (b.args.n + 1) h), h))

-- The items that are lent on are those of the level below.
lent-items : (c : tie.After-items)
    → let a = c.args in
    c.items.result.now ≡ items_in (length a.cards.now) a.lists.now (head_words a.head) (suc a.n)
lent-items c =
    let l = c in
    c.items.ensures ∙ rw (l.length_of-below.ensures, add-one l.args.n)

link-requires : tie.Need-link-requires
link-requires c κs =
    let r = c.requires.ready in
    rw (lent-items c) (record { hosts = ready.ready-below _ _ _ r; tabled = ready.ready-tabled _ _ _ r; bare = ready.ready-bare _ _ _ r; apart = ready.ready-apart _ _ _ r })

slice-aggregate-replace-2 : tie.Need-slice_bounds-replace-end-2
slice-aggregate-replace-2 c = search rules

replace-requires-2 : tie.Need-replace-left-requires-2
replace-requires-2 c κs =
    let k = c in
    let b = k in
    let r = b.requires.ready in
    let m = found b.before.before.before.before.before.before.before.before.before.before.before.before b.requires.memory in
    let n = b.args.n in
    let p = b.args.p in
    let t = listings.leave-ready (store_of m) (ready.ready-fits m n p r) n p (omega (arith, ready.ready-level m n p r)) r.chosen.on
    (length m.cards) m.lists m.head (head_words k.with_mark-marked.result) (ready.ready-size m n p r) (ready.ready-shown m n p r).0 (ready.ready-shown m n p r).1
    (mark k.before.before.before.before.before.before.before b.requires.memory r) in
    (t.0, (t.1.0, omega (arith, t.1.1)))

same-length-2 : tie.Need-shape_of-cards
same-length-2 c = search rules

same-length-3 : tie.Need-shape_of-lists
same-length-3 c = search rules

returns-2 : tie.Need-returns
returns-2 c =
    let v = c in
    let k = v in
    let w = k in
    let l = w in
    let b = l in
    let n = b.args.n in
    let p = b.args.p in
    λ memory r.
    let m = found b.before.before.before.before.before.before.before.before.before.before.before.before.before.before.before memory in
    let some' : length (level (store_of m) (suc n)) ≡ 0 → ⊥ = λ e. k.if-below-eq0.false (sym (long l.before.before.before.before.before.before.before.before.before.before.before memory r) ∙ e) in
    let g = listings.left (store_of m) (ready.ready-fits m n p r) n p (omega (arith, ready.ready-level m n p r)) r.chosen.on
    (length m.cards) m.lists m.head (head_words w.with_mark-marked.result) (ready.ready-size m n p r) (ready.ready-shown m n p r).0 (ready.ready-shown m n p r).1
    (mark w.before.before.before.before.before.before.before.before.before.before memory r) v.replace-left-2.new.lists (head_words v.replace-left-2.result) v.replace-left-2.ensures.0 v.replace-left-2.ensures.1 in
    let e = rw (lent-items k.before.before.before.before.before.before.before) at k.link.ensures in
    rw (ready.links-down m n p r some')
    (record { number = refl; left = ready.linked-lent m n p r _ v.replace-left-2.new.lists (head_words v.replace-left-2.result) e g.0 g.1 })

pub go_down_spec : {M : Type 1} → statement M
go_down_spec =
    tie.close (tie.spec greatest-requires add-length-of length-of-requires with-mark-requires cast-item slice-aggregate-replace replace-requires add-join join-requires same_length returns add-items items-requires link-requires slice-aggregate-replace-2 replace-requires-2 same-length-2 same-length-3 returns-2)
